use Rattle.std.proofs.Common.{ap, map, ◌∙◌}
use Rattle.incarnations.specs.Standings.{standing_of}
use Rattle.block_machine.specs.Machine.{State}
use Rattle.block_machine.proofs.Standings.{least_some, least_none}
use Rattle.block_machine.proofs.machine.Machine.least_work.Goals as goal

pub returns-clause-some : goal.returns-clause-some
returns-clause-some c =
    least_some _ _ (c.self.invariant.standings_are ∙ ap (λ (s : State). map standing_of s.slots) c.self.view_is) _ c.first.ensures

pub returns-clause-none : goal.returns-clause-none
returns-clause-none c =
    least_none _ _ (c.self.invariant.standings_are ∙ ap (λ (s : State). map standing_of s.slots) c.self.view_is) _ c.first.ensures
