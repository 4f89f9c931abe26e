-- Which variables mappings bind, and lists of mappings that have none in common.
use Rattle.std.specs.Prelude.{◌≡◌, ℕ, Bool, false, List, is_some, is_none}
use Rattle.std.specs.List.{AllByRecursion, list_all, list_any}
use Rattle.datasets.specs.declared.id.Id.{Id}
use Rattle.meaning.specs.Mapping.{Mapping, term_for, shares}

-- whether a mapping binds no variable
abbrev pub binds_none : Mapping Id → Bool
binds_none m = list_all is_none m

-- whether a variable is bound in one of these mappings
abbrev pub is_bound_among : List (Mapping Id) → ℕ → Bool
is_bound_among ms v = list_any (λ m. is_some (term_for m v)) ms

-- no mapping of one list shares a variable with one of the other
abbrev pub ShareNothing : List (Mapping Id) → List (Mapping Id) → Type 0
ShareNothing left right = AllByRecursion (λ a. AllByRecursion (λ b. shares a b ≡ false) right) left
