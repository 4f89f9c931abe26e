-- What is kept of slots beside them. What is committed never changes again: so of the first
-- requests, once they are settled, a note keeps no part of its list, and their changes are kept as
-- one.
use Rattle.std.specs.Prelude.{◌≡◌, ℕ, ◌<◌, ◌≤◌, Bool, true, false, List, [], ◌∷◌, ◌++◌, length, map, Some, None}
use Rattle.reads.specs.Reads.{View, Delta, Read}
use Rattle.version_overlay.specs.Settled.{changed_by}
use Rattle.version_overlay.specs.ChangeFilter.{may_cover}
use Rattle.incarnations.specs.declared.state.Noted.{Noted as KeptNote}
use Rattle.incarnations.specs.declared.state.Slot.{Slot as KeptSlot}
use Rattle.incarnations.specs.declared.state.Status.{Status}
use Rattle.incarnations.specs.declared.state.Status.TheVariants.{Ready, Executing, Executed, Committed}
use Rattle.incarnations.specs.Kept.{slot_by, plain}
use Rattle.incarnations.specs.Slots.{Noted, Slot}
use Rattle.incarnations.specs.Statuses.{is_closed}
use Rattle.validate.specs.declared.found.Found.{Found}
use Rattle.validate.specs.declared.found.Found.TheVariants as found
use Rattle.validate.specs.declared.kept.Kept.{Kept}
use Rattle.validate.specs.Below.{slot_at, view_at, blocker, touching, note_now}
use Rattle.validate.specs.Lower.{Knows}

-- slots, their notes with the parts of their lists that are kept
abbrev pub shown : List KeptSlot → List Slot
shown slots = map (slot_by plain) slots

-- a note with its whole list: of the requests that were settled when it was made, that is the list
-- of now
abbrev pub whole : List KeptSlot → KeptNote → Noted
whole slots n = record { read = n.note.read; answer = n.note.answer; touching = touching (shown slots) n.low n.note.read ++ n.touching }

-- whether a request of this status may be an estimate
abbrev pub may_estimate : Status → Bool
may_estimate (Ready n) = true
may_estimate (Executing n by) = true
may_estimate (Executed n) = false
may_estimate (Committed n) = false

abbrev pub IsCalm : Slot → Type 0
IsCalm x = may_estimate x.status ≡ false → x.estimate ≡ false

-- no note was made when more than so many requests were settled
abbrev pub LowNotes : ℕ → List KeptNote → Type 0
LowNotes low [] = Unit {0}
LowNotes low (n ∷ ns) = (n.low ≤ low) × LowNotes low ns

abbrev pub LowSlots : ℕ → List KeptSlot → Type 0
LowSlots low [] = Unit {0}
LowSlots low (x ∷ xs) = LowNotes low x.notes × LowSlots low xs

-- What is kept: of each request, that what was published lets through all that its delta covers; of
-- those that are settled, that they are committed, and what they make of a base; and that no
-- request that is executed is an estimate.
pub record IsKept (slots : List KeptSlot) (low : ℕ) (published : Read → Bool) (settled : List Delta) : Type 0 where
  pub within : low ≤ length slots
  pub knows : Knows published (shown slots)
  pub folded : (base : View) → changed_by settled base ≡ view_at base (shown slots) low
  pub closed : (j : ℕ) → j < low → is_closed (Some (slot_at (shown slots) j).status) ≡ true
  pub calm : (j : ℕ) → IsCalm (slot_at (shown slots) j)
  pub lows : LowSlots low slots

abbrev pub Holds : Kept → Type 0
Holds k = IsKept k.slots.items k.low (may_cover k.published) k.settled

-- what is found of a read: the estimate that blocks it, or the note of its answer, with that answer
abbrev pub IsFound : View → List KeptSlot → ℕ → ℕ → Read → Found → Type 0
IsFound base slots low i read (found.Blocked j) = blocker (shown slots) i read ≡ Some j
IsFound base slots low i read (found.Noted n answer) =
    (blocker (shown slots) i read ≡ None)
    × ((n.low ≡ low) × ((whole slots n ≡ note_now base (shown slots) i read) × (answer ≡ n.note.answer)))
