-- What is answered for a text that may be longer than a limit: of a longer one only those lines
-- count that lie with their end in the first bytes up to the limit.
use Rattle.std.specs.Prelude.{ℕ, ◌<◌, ◌≤◌, ◌-◌, ◌==◌, ◌&&◌, nat_le, Bool, true, false, List, [], ◌∷◌, length, take, slice_index, Result, Ok, Err, if◌then◌else◌}
use Rattle.datasets.specs.Dataset.{Dataset}
use Rattle.terms.specs.declared.term.Term.{Term}
use Rattle.devices.specs.declared.front.ReadFault.{ReadFault}
use Rattle.devices.specs.declared.front.ReadFault.TheVariants as read_fault
use Rattle.nquads.specs.declared.fault.BaseFault.{BaseFault}
use Rattle.nquads.specs.declared.fault.BaseFault.TheVariants as fault
use Rattle.nquads_lines.specs.Lines.{lines}
use Rattle.nquads.specs.Spelled.{Spells, IsFirstBadOf}

-- a cut behind the first n bytes would part a CR from its LF
abbrev pub parts_crlf : ℕ → List ℕ → Bool
parts_crlf n text = (slice_index text (n - 1) == 13) && (slice_index text n == 10)

-- the first n bytes, or one fewer where that would part a CR from its LF
abbrev pub front_within : ℕ → List ℕ → List ℕ
front_within n text = take (if parts_crlf n text then n - 1 else n) text

abbrev pub but_last : List (List ℕ) → List (List ℕ)
but_last [] = []
but_last (line ∷ []) = []
but_last (line ∷ next ∷ later) = line ∷ but_last (next ∷ later)

-- the lines that lie with their end in the first n bytes: all but the last of the front, which has
-- no end there
abbrev pub ended_lines : ℕ → List ℕ → List (List ℕ)
ended_lines n text = but_last (lines (front_within n text))

-- the lines that count
abbrev pub counted_lines : ℕ → List ℕ → List (List ℕ)
counted_lines limit text = if nat_le (length text) limit then lines text else ended_lines limit text

-- What a text is answered. Memory may run out, and the device may fail, at any text.
abbrev pub IsAnswer : ℕ → List ℕ → Result (Dataset Term) BaseFault → Type 0
IsAnswer limit text (Ok d) = Spells text d × (length text ≤ limit)
IsAnswer limit text (Err fault.OutOfMemory) = Unit {0}
IsAnswer limit text (Err (fault.BadLine n)) = IsFirstBadOf (counted_lines limit text) n
IsAnswer limit text (Err fault.TooLong) = (limit < length text) × ((n : ℕ) → IsFirstBadOf (ended_lines limit text) n → ⊥)
IsAnswer limit text (Err fault.Device) = Unit {0}

-- why a base was not read whose bytes did not come
abbrev pub fault_of_device : ReadFault → BaseFault
fault_of_device read_fault.OutOfMemory = fault.OutOfMemory
fault_of_device read_fault.Device = fault.Device

-- the device failed
abbrev pub is_device_fault : BaseFault → Bool
is_device_fault fault.OutOfMemory = false
is_device_fault (fault.BadLine n) = false
is_device_fault fault.TooLong = false
is_device_fault fault.Device = true

abbrev pub is_device : {A : Type 0} → Result A BaseFault → Bool
is_device (Ok x) = false
is_device (Err e) = is_device_fault e
