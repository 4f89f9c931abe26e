-- What the machine keeps beside its state.
use Rattle.std.specs.Prelude.{◌≡◌, ℕ, ◌<◌, true, nat_le, List, map, Some}
use Rattle.stamp_tree.specs.declared.standing.Standing.{Standing}
use Rattle.incarnations.specs.Slots.{Slot}
use Rattle.incarnations.specs.Standings.{standing_of}
use Rattle.incarnations.specs.Statuses.{is_closed}
use Rattle.validate.specs.Below.{slot_at}
use Rattle.block_machine.specs.Machine.{is_current}

-- the last change of a committed request, and how each request stands
pub record KeepsBeside (slots : List Slot) (front : ℕ) (latest : ℕ) (standings : List Standing) : Type 0 where
  pub changes : (moment : ℕ) → is_current slots front moment ≡ nat_le latest moment
  pub closed : (j : ℕ) → j < front → is_closed (Some (slot_at slots j).status) ≡ true
  pub standings_are : standings ≡ map standing_of slots
