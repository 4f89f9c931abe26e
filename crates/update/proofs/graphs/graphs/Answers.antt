use Rattle.std.specs.Prelude.{IfOk}
use Rattle.std.proofs.Common.{Result, Ok, sym, ap, subst, ◌∙◌}
use Rattle.datasets.specs.Id.{id_order}
use Rattle.asking.specs.Near.{is_near_graphs}
use Rattle.meaning.specs.declared.reply.Cause.{Cause}
use Rattle.reads.specs.Reads.{Delta, applied}
use Rattle.update.specs.Asked.{IsWithin}
use Rattle.update.specs.Changed.{changed}
use Rattle.update.specs.Known.{or_told}
use Rattle.update.proofs.GraphNearness.{within_more, followed_within}
use Rattle.update.proofs.graphs.graphs.Goals as goal

pub returns-in_ok-change-in-Ok-clause-effect : goal.returns-in_ok-change-in-Ok-clause-effect
returns-in_ok-change-in-Ok-clause-effect g c d a =
    let D = applied c.args.changes.now d in
    ap Ok (c.in_ok-change-in-Ok.ensures d)
    ∙ ap (changed D) (sym c.in-Ok.is)
    ∙ c.in_ok-own.ensures.effect d a

pub returns-in_ok-change-in-Ok-clause-within : goal.returns-in_ok-change-in-Ok-clause-within
returns-in_ok-change-in-Ok-clause-within g c allowed near h =
    let asked = or_told (is_near_graphs id_order c.args.operation.now) c.own_change.new.notes.items in
    let own = subst (λ (o : Result Delta Cause). IfOk o (λ z. IsWithin asked z)) c.in-Ok.is c.in_ok-own.ensures.within in
    followed_within allowed c.args.changes.now c.in-Ok.own c.in_ok-change-in-Ok.change
    c.in_ok-change-in-Ok.ensures
    h (within_more asked allowed near c.in-Ok.own own)

pub returns-in-Err-clause-effect : goal.returns-in-Err-clause-effect
returns-in-Err-clause-effect g c d a = ap (changed (applied c.args.changes.now d)) (sym c.in-Err.is) ∙ c.in_ok-own.ensures.effect d a
