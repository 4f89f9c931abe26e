-- What all of a list pass, those of its parts pass.
use Rattle.std.proofs.Common.{◌≡◌, ℕ, Bool, true, List, ◌++◌, take, drop, sym, ap, ◌∙◌}
use Rattle.std.specs.List.{list_all}
use Rattle.std.proofs.lemmas.Bool.{and_parts}
use Rattle.std.proofs.lemmas.List.{take-append-drop}
use Rattle.std.proofs.lemmas.List.Folds.{list_all-append}

module _ {A : Type 0} (p : A → Bool) (n : ℕ) (xs : List A) (all : list_all p xs ≡ true) where
  both : (list_all p (take n xs) ≡ true) × (list_all p (drop n xs) ≡ true)
  both = and_parts (list_all p (take n xs)) (list_all p (drop n xs)) (sym (list_all-append p (take n xs) (drop n xs)) ∙ ap (list_all p) (take-append-drop n xs) ∙ all)

  pub front_all : (ys : List A) → ys ≡ take n xs → list_all p ys ≡ true
  front_all ys e = ap (list_all p) e ∙ both.0

  pub back_all : (ys : List A) → ys ≡ drop n xs → list_all p ys ≡ true
  back_all ys e = ap (list_all p) e ∙ both.1
