-- What is still to be done for requests.
use Rattle.std.specs.Prelude.{◌≡◌, ℕ, ◌<◌, Bool, true, false, not, ◌||◌, List, length, Option, Some, None, is_some}
use Rattle.incarnations.specs.declared.state.Status.{Status}
use Rattle.incarnations.specs.declared.state.Status.TheVariants.{Ready, Executing, Executed, Committed}
use Rattle.incarnations.specs.Slots.{Slot}
use Rattle.validate.specs.Below.{slot_at}
use Rattle.slots.specs.Slots.{status_of}
use Rattle.block_machine.specs.Machine.{is_stamped}

abbrev pub can_go_on : Option Status → (has_pass stamped : Bool) → Bool
can_go_on (Some (Ready n)) has_pass stamped = true
can_go_on (Some (Executing n by)) has_pass stamped = false
can_go_on (Some (Executed n)) has_pass stamped = has_pass || not stamped
can_go_on (Some (Committed n)) has_pass stamped = false
can_go_on None has_pass stamped = false

-- Whether something can be done for a request but to commit it: it is ready, or it is executed, and
-- a pass stands or no stamp that holds.
abbrev pub has_work : List Slot → ℕ → Bool
has_work slots i = can_go_on (status_of slots i) (is_some (slot_at slots i).pass) (is_stamped slots i (slot_at slots i).stamp)

-- the least request for which something can be done but to commit it
pub record IsLeastWork (slots : List Slot) (i : ℕ) : Type 0 where
  pub within : i < length slots
  pub has : has_work slots i ≡ true
  pub none : (j : ℕ) → j < i → has_work slots j ≡ false
