use Rattle.std.proofs.Common.{◌++◌, sym, ap, subst, ◌∙◌}
use Rattle.std.proofs.lemmas.Result.{IfOk-weaker}
use Rattle.datasets.specs.Id.{id_order}
use Rattle.asking.specs.Near.{is_near_target}
use Rattle.reads.specs.Reads.{applied}
use Rattle.update.specs.Asked.{AskedQuads}
use Rattle.update.specs.Known.{or_told}
use Rattle.update.specs.Graphs.{quads_of, leaving}
use Rattle.update.proofs.GraphNearness.{asked_more, both_asked}
use Rattle.update.proofs.graphs.leaving.Goals as goal

pub returns-in-Add-clause-seen : goal.returns-in-Add-clause-seen
returns-in-Add-clause-seen g c d a = c.new.ensures.items ∙ ap (λ h. leaving h c.args.found.items (quads_of c.args.to.now (applied c.args.changes.now d).quads)) (sym c.in-Add.is)

pub returns-in-Add-clause-within : goal.returns-in-Add-clause-within
returns-in-Add-clause-within g c allowed f h = subst (AskedQuads allowed) (sym c.new.ensures.items) tt

pub returns-in-Copy-clause-seen : goal.returns-in-Copy-clause-seen
returns-in-Copy-clause-seen g c =
    IfOk-weaker c.quads_of.result _ _
    (λ quads h d a. h d a ∙ ap (λ w. leaving w c.args.found.items (quads_of c.args.to.now (applied c.args.changes.now d).quads)) (sym c.in-Copy.is)) c.quads_of.ensures.seen

pub returns-in-Copy-clause-within : goal.returns-in-Copy-clause-within
returns-in-Copy-clause-within g c allowed f h =
    IfOk-weaker c.quads_of.result _ _ (λ quads k. asked_more (or_told (is_near_target id_order c.args.to.now) c.quads_of.new.notes.items) allowed f quads.items k) c.quads_of.ensures.within

pub returns-in_ok-quads-in-Move-clause-seen : goal.returns-in_ok-quads-in-Move-clause-seen
returns-in_ok-quads-in-Move-clause-seen g c d a =
    c.in_ok-quads-in-Move.ensures
    ∙ ap (λ qs. c.args.found.items ++ qs) (c.in_ok-others-in-Move.ensures.seen d a)
    ∙ ap (λ h. leaving h c.args.found.items (quads_of c.args.to.now (applied c.args.changes.now d).quads)) (sym c.in-Move.is)

pub returns-in_ok-quads-in-Move-clause-within : goal.returns-in_ok-quads-in-Move-clause-within
returns-in_ok-quads-in-Move-clause-within g c allowed f h =
    let others = c.in_ok-others-in-Move.others.items in
    both_asked allowed c.args.found.items others c.in_ok-quads-in-Move.quads.items c.in_ok-quads-in-Move.ensures h
    (asked_more (or_told (is_near_target id_order c.args.to.now) c.quads_of-in-Move.new.notes.items) allowed f others c.in_ok-others-in-Move.ensures.within)
