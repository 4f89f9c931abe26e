use Rattle.std.proofs.Common.{ap, sym, ◌∙◌}
use Rattle.incarnations.specs.Statuses.{is_closed}
use Rattle.block_machine.proofs.Steps.{keeps_step}
use Rattle.block_machine.proofs.machine.Machine.begin.Goals as goal

pub invariant_of-self : goal.invariant_of-self
invariant_of-self c =
    keeps_step c.self.inside.slots c.self.inside.front c.self.inside.latest c.self.inside.standings c.self.invariant c.args.i (ap is_closed (sym c.status-status.ensures ∙ c.in_default.ensures.none)) _ c.begin.new.self c.begin.ensures _ c.standing.ensures _ c.set.ensures
