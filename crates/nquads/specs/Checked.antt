-- Looking for the first bad line, from first to last.
use Rattle.std.specs.Prelude.{ℕ, ◌≡◌, ◌+◌, List, [], ◌∷◌, Option, Some, None, Result, Ok, Err}
use Rattle.std.specs.Option.{option_map_or}
use Rattle.nquads.specs.declared.fault.BaseFault.{BaseFault}
use Rattle.nquads.specs.declared.fault.BaseFault.TheVariants as fault
use Rattle.nquads_lines.specs.Reading.{line_of}

-- the number of the first bad line, where n lines came before
abbrev pub first_bad : ℕ → List (List ℕ) → Option ℕ
first_bad n [] = None
first_bad n (line ∷ later) = option_map_or (λ said. first_bad (n + 1) later) (line_of line) (Some (n + 1))

-- why looking stopped, unless memory ran out
abbrev pub StopsAt : BaseFault → Option ℕ → Type 0
StopsAt fault.OutOfMemory found = Unit {0}
StopsAt (fault.BadLine n) found = found ≡ Some n
StopsAt fault.TooLong found = ⊥
StopsAt fault.Device found = ⊥

abbrev pub Checks : {A : Type 0} → Result A BaseFault → Option ℕ → Type 0
Checks (Ok x) found = found ≡ None
Checks (Err e) found = StopsAt e found
