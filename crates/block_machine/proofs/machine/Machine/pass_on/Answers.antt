use Rattle.std.proofs.Common.{◌≡◌, false, rules, ap, ◌∙◌}
use Rattle.std.specs.Prelude.{is_none}
use Rattle.incarnations.specs.Statuses.{is_closed}
use Rattle.validate.specs.Below.{slot_at}
use Rattle.slots.specs.Slots.{status_of}
use Rattle.block_machine.specs.Machine.{State}
use Rattle.block_machine.proofs.Steps.{keeps_step, keeps_passing}
use Rattle.block_machine.proofs.machine.Machine.pass_on.Goals as goal

pub invariant_of-self : goal.invariant_of-self
invariant_of-self c =
    keeps_step c.self.inside.slots c.self.inside.front c.self.inside.latest c.self.inside.standings c.self.invariant c.args.i (ap is_closed (ap (λ (s : State). status_of s.slots c.args.i) c.self.view_is ∙ c.requires.executed)) _
    c.pass_on.new.self c.pass_on.ensures _ c.standing.ensures _ c.set.ensures

pub invariant_of-self-else-is_none : goal.invariant_of-self-else-is_none
invariant_of-self-else-is_none c =
    let some : is_none c.pass.result ≡ false = search rules in
    keeps_passing c.self.inside.slots c.self.inside.front c.self.inside.latest c.self.inside.standings c.self.invariant c.args.i c.args.n c.args.stands
    (ap (λ (s : State). status_of s.slots c.args.i) c.self.view_is ∙ c.requires.executed) (ap (λ (s : State). (slot_at s.slots c.args.i).pass) c.self.view_is ∙ c.requires.pass) c.pass_on.new.self c.pass_on.ensures
    c.pass.result c.pass.ensures some
