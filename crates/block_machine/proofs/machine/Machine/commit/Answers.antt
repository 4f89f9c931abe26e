use Rattle.std.proofs.Common.{ap, sym, ◌∙◌, max, arith}
use Rattle.incarnations.specs.Statuses.{is_closed}
use Rattle.block_machine.specs.Machine.{State}
use Rattle.block_machine.proofs.Keeps.{front_in}
use Rattle.block_machine.proofs.Steps.{keeps_front}
use Rattle.block_machine.proofs.machine.Machine.commit.Goals as goal

pub overflow_add-self : goal.overflow_add-self
overflow_add-self c =
    let within = front_in c.self.inside.slots c.self.inside.front c.self.inside.latest c.self.inside.standings c.self.invariant in
    let few = c.are_few.ensures in
    omega (arith, within, few)

pub invariant_of-self : goal.invariant_of-self
invariant_of-self c =
    keeps_front c.self.inside.slots c.self.inside.front c.self.inside.latest c.self.inside.standings c.self.invariant c.args.i (ap is_closed (sym c.status-status.ensures) ∙ sym c.is_closed.ensures ∙ c.if-is_closed.false)
    c.args.self.now (ap (λ (s : State). s.slots) (sym c.self.view_is)) (ap (λ (s : State). s.front) (sym c.self.view_is)) (sym c.may_commit.ensures ∙ c.if-not-may_commit.false)
    c.commit.new.self c.commit.ensures c.standing.result c.standing.ensures c.set.new.self c.set.ensures c.max-self-inside.result (c.max-self-inside.ensures ∙ ap (max c.self.inside.latest) c.changed-changed.ensures)
