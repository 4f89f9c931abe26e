-- What a map makes of a list: its set, and what a filter leaves of it.
use Rattle.std.specs.Prelude.{Bool, true, false, cond, filter}
use Rattle.std.specs.List.Sorted.{IsStrictlySortedBy}
use Rattle.std.proofs.Common.{◌≡◌, List, [], ◌∷◌, map, refl, ap, ◌∙◌}
use Rattle.std.specs.declared.cmp.Ordering.{Ordering}
use Rattle.std.specs.declared.cmp.Ordering.TheVariants.{Less, Equal, Greater}
use Rattle.sets.specs.Sets.{placed, with, set_of}
use Rattle.sets.proofs.Every.{all_map, all_of_map}

module _ {A B : Type 0} (f : A → B) (R : B → B → Ordering) where
  map_placed : (r : Ordering) (x y : A) (ys further : List A) → map f (placed r x y ys further) ≡ placed r (f x) (f y) (map f ys) (map f further)
  map_placed Less x y ys further = refl
  map_placed Equal x y ys further = refl
  map_placed Greater x y ys further = refl

  map_with : (x : A) (xs : List A) → map f (with (λ a b. R (f a) (f b)) x xs) ≡ with R (f x) (map f xs)
  map_with x [] = refl
  map_with x (y ∷ ys) =
      map_placed (R (f x) (f y)) x y ys (with (λ a b. R (f a) (f b)) x ys)
      ∙ ap (placed (R (f x) (f y)) (f x) (f y) (map f ys)) (map_with x ys)

  pub map_set : (xs : List A) → map f (set_of (λ a b. R (f a) (f b)) xs) ≡ set_of R (map f xs)
  map_set [] = refl
  map_set (x ∷ xs) = map_with x (set_of (λ a b. R (f a) (f b)) xs) ∙ ap (with R (f x)) (map_set xs)

  pub sorted-map : (xs : List A) → IsStrictlySortedBy (λ a b. R (f a) (f b)) xs → IsStrictlySortedBy R (map f xs)
  unfolding IsStrictlySortedBy
  sorted-map [] s = s
  sorted-map (x ∷ xs) s = (all_map (λ y. R (f x) y ≡ Less) f xs s.0, sorted-map xs s.1)

  pub sorted-unmap : (xs : List A) → IsStrictlySortedBy R (map f xs) → IsStrictlySortedBy (λ a b. R (f a) (f b)) xs
  unfolding IsStrictlySortedBy
  sorted-unmap [] s = s
  sorted-unmap (x ∷ xs) s = (all_of_map (λ y. R (f x) y ≡ Less) f xs s.0, sorted-unmap xs s.1)

mapped_head : {A B : Type 0} (b : Bool) (f : A → B) (x : A) (xs : List A) (ys : List B) → ys ≡ map f xs → cond b (f x ∷ ys) ys ≡ map f (cond b (x ∷ xs) xs)
mapped_head true f x xs ys e = ap (λ zs. f x ∷ zs) e
mapped_head false f x xs ys e = e

pub filter-map : {A B : Type 0} (p : B → Bool) (f : A → B) (xs : List A) → filter p (map f xs) ≡ map f (filter (λ x. p (f x)) xs)
filter-map p f [] = refl
filter-map p f (x ∷ xs) = mapped_head (p (f x)) f x (filter (λ y. p (f y)) xs) _ (filter-map p f xs)
