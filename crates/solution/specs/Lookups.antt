-- Mappings by what they have for some variables.
use Rattle.std.specs.Prelude.{◌≡◌, ℕ, Bool, ◌&&◌, true, false, if◌then◌else◌, List, ◌++◌, map, filter, is_some}
use Rattle.std.specs.List.{list_all, list_any}
use Rattle.std.specs.List.Sorted.{IsPartitionPoint}
use Rattle.std.specs.declared.cmp.Ordering.{Ordering}
use Rattle.std.specs.Ordering.{is_eq, is_lt, is_le}
use Rattle.datasets.specs.declared.id.Id.{Id}
use Rattle.datasets.specs.Id.{id_order}
use Rattle.meaning.specs.Mapping.{Mapping, mapping_cmp, term_for, compatible}

-- what a mapping has for these variables, in turn
abbrev pub terms_at : List ℕ → Mapping Id → Mapping Id
terms_at variables m = map (term_for m) variables

-- by what two mappings have for these variables
abbrev pub order_at : List ℕ → Mapping Id → Mapping Id → Ordering
order_at variables a b = mapping_cmp id_order (terms_at variables a) (terms_at variables b)

-- those that have for these variables what a mapping has
abbrev pub tied : List ℕ → List (Mapping Id) → Mapping Id → List (Mapping Id)
tied variables ms a = filter (λ b. is_eq (order_at variables b a)) ms

-- those before this place are less than a for these variables, and no others are
abbrev pub IsStart : List ℕ → List (Mapping Id) → Mapping Id → ℕ → Type 0
IsStart variables ms a place =
    IsPartitionPoint (λ b. is_lt (order_at variables b a) ≡ true) (λ b. is_lt (order_at variables b a) ≡ false) ms place

-- those before this place are less than or equal to a for these variables, and no others are
abbrev pub IsEnd : List ℕ → List (Mapping Id) → Mapping Id → ℕ → Type 0
IsEnd variables ms a place =
    IsPartitionPoint (λ b. is_le (order_at variables b a) ≡ true) (λ b. is_le (order_at variables b a) ≡ false) ms place

-- whether a mapping binds each of these variables
abbrev pub binds : List ℕ → Mapping Id → Bool
binds variables m = list_all (λ v. is_some (term_for m v)) variables

-- of mappings that bind these variables, those that tie with a mapping that binds them too; else
-- all
abbrev pub near_bound : List ℕ → List (Mapping Id) → Mapping Id → List (Mapping Id)
near_bound variables found a = if binds variables a then tied variables found a else found

-- the same, and those that don't bind the variables
abbrev pub near : List ℕ → (found loose : List (Mapping Id)) → Mapping Id → List (Mapping Id)
near variables found loose a = near_bound variables found a ++ loose

-- of those that a mapping is compatible with, the same are near it as among all
abbrev pub HasAll : List ℕ → (found loose all : List (Mapping Id)) → Type 0
HasAll variables found loose all =
    (a : Mapping Id) (test : Mapping Id → Bool) → list_any (λ b. compatible id_order a b && test b) (near variables found loose a) ≡ list_any (λ b. compatible id_order a b && test b) all
