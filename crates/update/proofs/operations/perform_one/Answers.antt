use Rattle.std.proofs.Common.{sym, ap, ◌∙◌}
use Rattle.std.proofs.lemmas.Bool.{or_left}
use Rattle.std.proofs.lemmas.Result.{IfOk-weaker}
use Rattle.datasets.specs.Id.{id_order}
use Rattle.dict.specs.Dictionary.{numbers}
use Rattle.meaning.specs.Effect.{effect_of}
use Rattle.meaning.specs.GraphOperations.{silently}
use Rattle.asking.specs.Near.{is_near, is_near_graphs}
use Rattle.reads.specs.Reads.{applied}
use Rattle.asking.proofs.Notes.{goes_within, goes_short, goes_as}
use Rattle.update.proofs.ToldReads.{or_told_at}
use Rattle.update.proofs.operations.perform_one.Goals as goal

pub returns-in-Modify-clause-goes : goal.returns-in-Modify-clause-goes
returns-in-Modify-clause-goes g c = goes_within (λ r e. ap (λ o. is_near id_order o r) c.in-Modify.is ∙ e) c.modify.ensures.goes

pub returns-in-Modify-clause-effect : goal.returns-in-Modify-clause-effect
returns-in-Modify-clause-effect g c =
    IfOk-weaker c.modify.result _ _
    (λ outcome h d a. h d a ∙ ap (λ o. effect_of (numbers c.args.dict.now) c.args.place c.args.op o (applied c.args.changes.now d)) (sym c.in-Modify.is))
    c.modify.ensures.effect

pub returns-in-Modify-clause-within : goal.returns-in-Modify-clause-within
returns-in-Modify-clause-within g c allowed near h = c.modify.ensures.within allowed (λ r e. near r (or_left _ _ (ap (λ o. is_near id_order o r) c.in-Modify.is ∙ e))) h

pub returns-in_err-outcome-in-Graphs-clause-goes : goal.returns-in_err-outcome-in-Graphs-clause-goes
returns-in_err-outcome-in-Graphs-clause-goes g c = goes_as _ c.from_residual.ensures.1 (goes_within (λ r e. ap (λ o. is_near id_order o r) c.in-Graphs.is ∙ e) c.in_err-outcome-in-Graphs.ensures.goes)

pub returns-in_err-kept-in-Graphs-clause-goes : goal.returns-in_err-kept-in-Graphs-clause-goes
returns-in_err-kept-in-Graphs-clause-goes g c = goes_short _ c.from_residual-in_err-kept-in-Graphs.ensures.1 (goes_within (λ r e. ap (λ o. is_near id_order o r) c.in-Graphs.is ∙ e) c.in_ok-outcome-in-Graphs.ensures.goes)

pub returns-in_ok-kept-in-Graphs-clause-goes : goal.returns-in_ok-kept-in-Graphs-clause-goes
returns-in_ok-kept-in-Graphs-clause-goes g c = goes_within (λ r e. ap (λ o. is_near id_order o r) c.in-Graphs.is ∙ e) c.in_ok-outcome-in-Graphs.ensures.goes

pub returns-in_ok-kept-in-Graphs-clause-effect : goal.returns-in_ok-kept-in-Graphs-clause-effect
returns-in_ok-kept-in-Graphs-clause-effect g c d a =
    let D = applied c.args.changes.now d in
    c.in_ok-kept-in-Graphs.ensures.effect d
    ∙ ap (silently id_order c.in-Graphs.silent D) (c.in_ok-outcome-in-Graphs.ensures.effect d a)
    ∙ ap (λ o. effect_of (numbers c.args.dict.now) c.args.place c.args.op o D) (sym c.in-Graphs.is)

pub returns-in_ok-kept-in-Graphs-clause-within : goal.returns-in_ok-kept-in-Graphs-clause-within
returns-in_ok-kept-in-Graphs-clause-within g c allowed near h =
    c.in_ok-kept-in-Graphs.ensures.within allowed h
    (c.in_ok-outcome-in-Graphs.ensures.within allowed (λ r e. near r (or_told_at (is_near_graphs id_order c.in-Graphs.operation) (is_near id_order c.args.operation.now) (λ x h. ap (λ o. is_near id_order o x) c.in-Graphs.is ∙ h) c.graphs.new.notes.items r e)) h)
