use Rattle.std.proofs.Common.{ap, sym, ◌∙◌, subst}
use Rattle.incarnations.specs.Statuses.{is_closed}
use Rattle.slots.specs.Slots.{status_of}
use Rattle.block_machine.specs.Beside.{KeepsBeside}
use Rattle.block_machine.specs.Machine.{State}
use Rattle.block_machine.proofs.Steps.{keeps_step}
use Rattle.block_machine.proofs.machine.Machine.store.Goals as goal

pub invariant_of-self-then-not-same : goal.invariant_of-self-then-not-same
invariant_of-self-then-not-same c =
    keeps_step c.settle.new.self c.self.inside.front c.self.inside.latest c.self.inside.standings
    (subst (λ s. KeepsBeside s c.self.inside.front c.self.inside.latest c.self.inside.standings) (sym c.settle.ensures) c.self.invariant) c.args.i
    (ap (λ s. is_closed (status_of s c.args.i)) c.settle.ensures ∙ ap (λ (s : State). is_closed (status_of s.slots c.args.i)) c.self.view_is ∙ c.requires.still) _ c.publish.new.self c.in_ok-same.ensures.ok _ c.standing.ensures _ c.set.ensures

pub invariant_of-self-else-not-same : goal.invariant_of-self-else-not-same
invariant_of-self-else-not-same c =
    keeps_step c.settle.new.self c.self.inside.front c.self.inside.latest c.self.inside.standings
    (subst (λ s. KeepsBeside s c.self.inside.front c.self.inside.latest c.self.inside.standings) (sym c.settle.ensures) c.self.invariant) c.args.i
    (ap (λ s. is_closed (status_of s c.args.i)) c.settle.ensures ∙ ap (λ (s : State). is_closed (status_of s.slots c.args.i)) c.self.view_is ∙ c.requires.still) _ c.publish.new.self c.in_ok-same.ensures.ok _ c.standing.ensures _ c.set.ensures
