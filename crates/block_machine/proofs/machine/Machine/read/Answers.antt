use Rattle.std.proofs.Common.{ap, sym, ◌∙◌, subst}
use Rattle.incarnations.specs.Statuses.{is_closed}
use Rattle.slots.specs.Slots.{status_of}
use Rattle.block_machine.specs.Beside.{KeepsBeside}
use Rattle.block_machine.proofs.Steps.{asked_keeps}
use Rattle.block_machine.proofs.machine.Machine.read.Goals as goal

pub invariant_of-self-2 : goal.invariant_of-self-2
invariant_of-self-2 c =
    asked_keeps c.args.scanned.now.dataset c.put_in_order.new.self c.read.new.self c.self.inside.front c.self.inside.latest c.self.inside.standings c.args.i c.args.scanned.now.read c.in_ok-j.field-0 c.in_ok-j.ensures.ok
    (subst (λ s. KeepsBeside s c.self.inside.front c.self.inside.latest c.self.inside.standings) (sym (c.put_in_order.ensures ∙ c.settle.ensures)) c.self.invariant)
    (ap is_closed (ap (λ s. status_of s c.args.i) (c.put_in_order.ensures ∙ c.settle.ensures) ∙ sym c.status-status.ensures ∙ c.in_default.ensures.none))
