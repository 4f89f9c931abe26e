use Rattle.std.specs.Prelude.{IfOk}
use Rattle.std.proofs.Common.{sym, ap, subst, ◌∙◌}
use Rattle.std.proofs.lemmas.Bool.{or_left}
use Rattle.std.proofs.lemmas.Result.{IfOk-weaker}
use Rattle.datasets.specs.Id.{id_order}
use Rattle.meaning.specs.GraphOperations.{graphs_after}
use Rattle.asking.specs.Near.{is_near_graphs}
use Rattle.reads.specs.Reads.{applied}
use Rattle.algebra.specs.declared.update.GraphOperation.TheVariants as graphs
use Rattle.update.specs.Asked.{IsWithin}
use Rattle.update.specs.Known.{or_told}
use Rattle.update.proofs.GraphNearness.{within_more}
use Rattle.asking.proofs.Notes.{goes_within}
use Rattle.update.proofs.graphs.own_change.Goals as goal

pub returns-in-Create-clause-goes : goal.returns-in-Create-clause-goes
returns-in-Create-clause-goes g c = goes_within (λ r e. ap (λ o. is_near_graphs id_order o r) c.in-Create.is ∙ e) c.created.ensures.goes

pub returns-in-Create-clause-effect : goal.returns-in-Create-clause-effect
returns-in-Create-clause-effect g c =
    IfOk-weaker c.created.result _ _ (λ outcome h d a. h d a ∙ ap (λ o. graphs_after id_order o (applied c.args.changes.now d)) (sym c.in-Create.is)) c.created.ensures.effect

pub returns-in-Create-clause-within : goal.returns-in-Create-clause-within
returns-in-Create-clause-within g c =
    IfOk-weaker c.created.result _ _
    (λ outcome h.
    IfOk-weaker outcome _ _ (λ own k. within_more (is_near_graphs id_order (graphs.Create c.in-Create.name)) (or_told (is_near_graphs id_order c.args.operation.now) c.created.new.notes.items) (λ r e. or_left _ _ (ap (λ o. is_near_graphs id_order o r) c.in-Create.is ∙ e)) own k) h)
    c.created.ensures.within

pub returns-in-Drop-clause-goes : goal.returns-in-Drop-clause-goes
returns-in-Drop-clause-goes g c = goes_within (λ r e. ap (λ o. is_near_graphs id_order o r) c.in-Drop.is ∙ e) c.dropped.ensures.goes

pub returns-in-Drop-clause-effect : goal.returns-in-Drop-clause-effect
returns-in-Drop-clause-effect g c =
    IfOk-weaker c.dropped.result _ _ (λ outcome h d a. h d a ∙ ap (λ o. graphs_after id_order o (applied c.args.changes.now d)) (sym c.in-Drop.is)) c.dropped.ensures.effect

pub returns-in-Drop-clause-within : goal.returns-in-Drop-clause-within
returns-in-Drop-clause-within g c =
    subst (λ o. IfOk c.dropped.result (λ outcome. IfOk outcome (λ own. IsWithin (or_told (is_near_graphs id_order o) c.dropped.new.notes.items) own))) (sym c.in-Drop.is) c.dropped.ensures.within

pub returns-in-Clear-clause-goes : goal.returns-in-Clear-clause-goes
returns-in-Clear-clause-goes g c = goes_within (λ r e. ap (λ o. is_near_graphs id_order o r) c.in-Clear.is ∙ e) c.cleared.ensures.goes

pub returns-in-Clear-clause-effect : goal.returns-in-Clear-clause-effect
returns-in-Clear-clause-effect g c =
    IfOk-weaker c.cleared.result _ _ (λ outcome h d a. h d a ∙ ap (λ o. graphs_after id_order o (applied c.args.changes.now d)) (sym c.in-Clear.is)) c.cleared.ensures.effect

pub returns-in-Clear-clause-within : goal.returns-in-Clear-clause-within
returns-in-Clear-clause-within g c =
    subst (λ o. IfOk c.cleared.result (λ outcome. IfOk outcome (λ own. IsWithin (or_told (is_near_graphs id_order o) c.cleared.new.notes.items) own))) (sym c.in-Clear.is) c.cleared.ensures.within

pub returns-in-Transfer-clause-goes : goal.returns-in-Transfer-clause-goes
returns-in-Transfer-clause-goes g c = goes_within (λ r e. ap (λ o. is_near_graphs id_order o r) c.in-Transfer.is ∙ e) c.transferred.ensures.goes

pub returns-in-Transfer-clause-effect : goal.returns-in-Transfer-clause-effect
returns-in-Transfer-clause-effect g c =
    IfOk-weaker c.transferred.result _ _ (λ outcome h d a. h d a ∙ ap (λ o. graphs_after id_order o (applied c.args.changes.now d)) (sym c.in-Transfer.is)) c.transferred.ensures.effect

pub returns-in-Transfer-clause-within : goal.returns-in-Transfer-clause-within
returns-in-Transfer-clause-within g c =
    subst (λ o. IfOk c.transferred.result (λ outcome. IfOk outcome (λ own. IsWithin (or_told (is_near_graphs id_order o) c.transferred.new.notes.items) own))) (sym c.in-Transfer.is) c.transferred.ensures.within
