-- What holds of all seats, once it is seen to of each.
use Rattle.std.proofs.Common.{◌≡◌, ℕ, zero, suc, ◌+◌, ◌<◌, List, [], ◌∷◌, length, set, Some, subst, arith}
use Rattle.std.specs.Prelude.{slice_get}
use Rattle.std.proofs.lemmas.Option.{same_Some}

-- each of the first n has it, at its place
abbrev pub AllBefore : {X : Type 0} → (ℕ → X → Type 0) → List X → ℕ → Type 0
AllBefore {X} P xs n = (i : ℕ) (x : X) → i < n → slice_get xs i ≡ Some x → P i x

pub set_next : {X : Type 0} (P : ℕ → X → Type 0) (xs : List X) (n : ℕ) (y : X) → n < length xs → AllBefore P xs n → P n y → AllBefore P (set xs n y) (n + 1)
set_next P [] n y within before new i z below is = absurd (omega arith)
set_next P (x ∷ xs) zero y within before new zero z below is = subst (P 0) (same_Some y z is) new
set_next P (x ∷ xs) zero y within before new (suc i) z below is = absurd (omega arith)
set_next P (x ∷ xs) (suc n) y within before new zero z below is = before 0 z (omega arith) is
set_next P (x ∷ xs) (suc n) y within before new (suc i) z below is =
    set_next (λ j. P (suc j)) xs n y (omega arith) (λ j w under at. before (suc j) w (omega arith) at) new i z (omega arith) is
