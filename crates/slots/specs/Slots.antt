-- The requests' slots by their number, with whole notes, and what a read and a commit come to in
-- them.
use Rattle.std.specs.Prelude.{◌≡◌, ℕ, zero, suc, List, [], ◌++◌, map, Option, Some, None, option_map, option_to_list, slice_get, slice_set}
use Rattle.meaning.specs.declared.reply.Reply as request
use Rattle.reads.specs.Reads.{View, Read, says}
use Rattle.incarnations.specs.declared.state.Slot.{Slot as KeptSlot}
use Rattle.incarnations.specs.declared.state.Status.{Status}
use Rattle.incarnations.specs.Kept.{slot_by}
use Rattle.incarnations.specs.Slots.{Slot, with_note}
use Rattle.validate.specs.Below.{slot_at, view_at, blocker, note_now}
use Rattle.validate.specs.Kept.{whole}
use Rattle.slots.specs.declared.asked.Asked.{Asked}
use Rattle.slots.specs.declared.asked.Asked.TheVariants as asked

-- none where i is no request of the block
abbrev pub status_of : List Slot → ℕ → Option Status
status_of slots i = option_map (λ x. x.status) (slice_get slots i)

-- the replies of the first n requests' last publications
unfoldable pub replies_to : List Slot → ℕ → List request.Reply
replies_to slots zero = []
replies_to slots (suc n) = replies_to slots n ++ option_to_list (slot_at slots n).reply

-- the slots that are kept
abbrev pub slots_of : List KeptSlot → List Slot
slots_of slots = map (slot_by (whole slots)) slots

-- what a read comes to, and what it leaves: a note, where it is answered
abbrev pub IsAsked : View → List Slot → List Slot → ℕ → Read → Asked → Type 0
IsAsked base old new i read (asked.Blocked j) = (blocker old i read ≡ Some j) × (new ≡ old)
IsAsked base old new i read (asked.Answered a) =
    ((blocker old i read ≡ None) × (a ≡ says read (view_at base old i)))
    × (new ≡ slice_set old i (with_note (slot_at old i) (note_now base old i read)))
