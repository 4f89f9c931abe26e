use Rattle.std.proofs.Common.{ap, sym, ◌∙◌, Some}
use Rattle.incarnations.specs.Statuses.{is_closed}
use Rattle.block_machine.proofs.Steps.{keeps_step}
use Rattle.block_machine.proofs.machine.Machine.take.Goals as goal

pub invariant_of-self : goal.invariant_of-self
invariant_of-self c =
    keeps_step c.self.inside.slots c.self.inside.front c.self.inside.latest c.self.inside.standings c.self.invariant c.args.i (ap is_closed (sym c.status.ensures ∙ c.in-Some-Ready.is ∙ ap Some c.in-Some-Ready.field-0-is)) _ c.take.new.self c.take.ensures _ c.standing.ensures _ c.set.ensures
