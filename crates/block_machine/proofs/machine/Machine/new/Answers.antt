use Rattle.std.proofs.Common.{refl}
use Rattle.incarnations.specs.Slots.{fresh_slot}
use Rattle.incarnations.specs.Standings.{standing_of}
use Rattle.block_machine.proofs.Keeps.{keeps_new}
use Rattle.block_machine.proofs.Standings.{standings_new}
use Rattle.block_machine.proofs.machine.Machine.new.Goals as goal

pub invariant_of-result : goal.invariant_of-result
invariant_of-result c =
    keeps_new c.in_ok-slots.slots c.args.size c.in_ok-standings.standings c.in_ok-slots.ensures
    (standings_new c.in_ok-slots.slots c.in_ok-standings.standings c.args.size c.args.size fresh_slot (standing_of fresh_slot) refl refl refl c.in_ok-slots.ensures c.in_ok-standings.ensures)
