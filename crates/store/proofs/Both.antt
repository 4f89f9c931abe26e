-- Two lists in one, of which each element has something made of it, and their parts again.
use Rattle.std.specs.Prelude.{Bool, map, take, drop}
use Rattle.std.proofs.Common.{◌≡◌, ℕ, true, List, [], ◌∷◌, ◌++◌, length, refl, sym, ap, ◌∙◌, take-append-drop}
use Rattle.std.specs.List.{list_all}
use Rattle.std.proofs.lemmas.Bool.{and_parts}
use Rattle.std.proofs.lemmas.List.Folds.{list_all-append}

abbrev head_of : {A : Type 0} (d : A) → List A → A
head_of d [] = d
head_of d (x ∷ xs) = x

abbrev tail_of : {A : Type 0} → List A → List A
tail_of [] = []
tail_of (x ∷ xs) = xs

pub both_mapped : {A B : Type 0} (f : A → B) (made : List A) (xs ys : List B) → map f made ≡ xs ++ ys
    → (map f (take (length xs) made) ≡ xs) × (map f (drop (length xs) made) ≡ ys)
both_mapped f made [] ys e = (refl, e)
both_mapped f [] (x ∷ xs) ys e = absurd (let g : [] ≡ x ∷ (xs ++ ys) = e in (cc))
both_mapped f (m ∷ made) (x ∷ xs) ys e =
    let first = ap (head_of x) e in
    let rest = both_mapped f made xs ys (ap tail_of e) in
    ((λ i. first i ∷ rest.0 i), rest.1)

pub both_all : {A : Type 0} (p : A → Bool) (n : ℕ) (xs : List A) → list_all p xs ≡ true → (list_all p (take n xs) ≡ true) × (list_all p (drop n xs) ≡ true)
both_all p n xs e = and_parts _ _ (sym (list_all-append p (take n xs) (drop n xs)) ∙ ap (list_all p) (take-append-drop n xs) ∙ e)
