-- What a loop over a list has done so far.
use Rattle.std.proofs.Common.{◌≡◌, ℕ, suc, ◌+◌, ◌<◌, Bool, true, List, ◌∷◌, ◌++◌, length, get_or, drop, map, sym, ap, ◌∙◌, add-one, drop-cons}
use Rattle.std.specs.List.{list_all}

pub drop_next : {X : Type 0} (xs : List X) (i : ℕ) (x : X) → i < length xs → x ≡ get_or xs i x → drop i xs ≡ x ∷ drop (i + 1) xs
drop_next xs i x lt is = rw add-one (drop-cons xs i x lt ∙ ap (λ (y : _). y ∷ drop (suc i) xs) (sym is))

-- a loop that pushes the numbers of a list's elements: what is pushed stands for what was read
pub record SoFar {A B : Type 0} (f : A → B) (known : A → Bool) (held : B → Bool) (list : List A) (rest all : List B) : Type 0 where
  pub is : map f list ++ rest ≡ all
  pub are_known : list_all known list ≡ true
  pub are_held : list_all held rest ≡ true
