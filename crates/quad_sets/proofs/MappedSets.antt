-- Sets of what a map makes of lists, in the order of what it makes.
use Rattle.std.specs.Prelude.{Bool, false, not, ◌||◌, filter}
use Rattle.std.specs.List.{list_any}
use Rattle.std.proofs.Common.{◌≡◌, List, [], ◌∷◌, ◌++◌, map, refl, ap, sym, ◌∙◌}
use Rattle.std.proofs.lemmas.List.{map-append}
use Rattle.std.specs.declared.cmp.Ordering.{Ordering}
use Rattle.std.specs.Ordering.{eq_by_cmp}
use Rattle.sets.specs.Sets.{has, set_of, union, without}
use Rattle.quad_lists.proofs.Mapped.{filter-map, map_set}

pub any-map : {A B : Type 0} (p : B → Bool) (f : A → B) (xs : List A) → list_any p (map f xs) ≡ list_any (λ x. p (f x)) xs
any-map p f [] = refl
any-map p f (x ∷ xs) = ap (λ b. p (f x) || b) (any-map p f xs)

module _ {A B : Type 0} (f : A → B) (R : B → B → Ordering) where
  pub has-map : (xs : List A) (q : A) → has R (map f xs) (f q) ≡ has (λ a b. R (f a) (f b)) xs q
  has-map xs q = any-map (eq_by_cmp R (f q)) f xs

  pub map-without : (xs ys : List A) → map f (without (λ a b. R (f a) (f b)) xs ys) ≡ without R (map f xs) (map f ys)
  map-without xs ys =
      (λ i. map f (filter (λ x. not (sym (has-map ys x) i)) xs)) ∙ sym (filter-map (λ y. not (has R (map f ys) y)) f xs)

  pub map-changed : (xs gone more : List A) → map f (union (λ a b. R (f a) (f b)) (without (λ a b. R (f a) (f b)) xs gone) more) ≡ union R (without R (map f xs) (map f gone)) (map f more)
  map-changed xs gone more =
      map_set f R (without (λ a b. R (f a) (f b)) xs gone ++ more)
      ∙ ap (set_of R) (map-append f (without (λ a b. R (f a) (f b)) xs gone) more ∙ ap (λ zs. zs ++ map f more) (map-without xs gone))

-- a list of what a map makes lacks what the map never makes
pub lacks_others : {A B : Type 0} (f : A → B) (R : B → B → Ordering) (q : B) → ((x : A) → eq_by_cmp R q (f x) ≡ false) → (xs : List A) → has R (map f xs) q ≡ false
lacks_others f R q h [] = refl
lacks_others f R q h (x ∷ xs) = ap (λ b. b || has R (map f xs) q) (h x) ∙ lacks_others f R q h xs
