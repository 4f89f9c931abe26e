-- Lists that are wanted only up to a length.
use Rattle.std.specs.Prelude.{ℕ, nat_lt, if◌then◌else◌, List, length, Option, Some, None}

-- these, unless there are more than the limit
abbrev pub up_to : {A : Type 0} → ℕ → List A → Option (List A)
up_to limit xs = if nat_lt limit (length xs) then None else Some xs
