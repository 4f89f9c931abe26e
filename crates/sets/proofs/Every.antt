-- What holds of each element of a list, and of the members of its set.
use Rattle.std.specs.Prelude.{Bool, map, filter, filter_map}
use Rattle.std.proofs.Common.{◌≡◌, ◌<◌, ℕ, zero, suc, true, false, cond, List, [], ◌∷◌, ◌++◌, Option, Some, None, length, get_or, refl, arith}
use Rattle.std.specs.List.{flat_map, cons_option, list_any, AllByRecursion}
use Rattle.std.specs.declared.cmp.Ordering.{Ordering}
use Rattle.std.specs.declared.cmp.Ordering.TheVariants.{Less, Equal, Greater}
use Rattle.std.proofs.lemmas.Bool.{or_parts}
use Rattle.sets.specs.Sets.{placed, with, set_of, union}

module _ {A : Type 0} (P : A → Type 0) where
  pub all_by : ((x : A) → P x) → (xs : List A) → AllByRecursion P xs
  all_by each [] = tt
  all_by each (x ∷ xs) = (each x, all_by each xs)

  pub all_at : (xs : List A) (i : ℕ) (d : A) → AllByRecursion P xs → i < length xs → P (get_or xs i d)
  all_at [] i d each lt = absurd (omega (arith, lt))
  all_at (x ∷ xs) zero d each lt = each.0
  all_at (x ∷ xs) (suc i) d each lt = all_at xs i d each.1 (omega (arith, lt))

  pub all_weaker : (Q : A → Type 0) → ((x : A) → P x → Q x) → (xs : List A) → AllByRecursion P xs → AllByRecursion Q xs
  all_weaker Q f [] each = tt
  all_weaker Q f (x ∷ xs) each = (f x each.0, all_weaker Q f xs each.1)

  pub all_joined : (xs ys : List A) → AllByRecursion P xs → AllByRecursion P ys → AllByRecursion P (xs ++ ys)
  all_joined [] ys each others = others
  all_joined (x ∷ xs) ys each others = (each.0, all_joined xs ys each.1 others)

  pub all_front : (xs ys : List A) → AllByRecursion P (xs ++ ys) → AllByRecursion P xs
  all_front [] ys each = tt
  all_front (x ∷ xs) ys each = (each.0, all_front xs ys each.1)

  pub all_back : (xs ys : List A) → AllByRecursion P (xs ++ ys) → AllByRecursion P ys
  all_back [] ys each = each
  all_back (x ∷ xs) ys each = all_back xs ys each.1

  pub all_map : {B : Type 0} (f : B → A) (xs : List B) → AllByRecursion (λ x. P (f x)) xs → AllByRecursion P (map f xs)
  all_map f [] each = tt
  all_map f (x ∷ xs) each = (each.0, all_map f xs each.1)

  pub all_of_map : {B : Type 0} (f : B → A) (xs : List B) → AllByRecursion P (map f xs) → AllByRecursion (λ x. P (f x)) xs
  all_of_map f [] each = tt
  all_of_map f (x ∷ xs) each = (each.0, all_of_map f xs each.1)

  pub all_flat_map : {B : Type 0} (f : B → List A) (xs : List B) → AllByRecursion (λ x. AllByRecursion P (f x)) xs → AllByRecursion P (flat_map f xs)
  all_flat_map f [] each = tt
  all_flat_map f (x ∷ xs) each = all_joined (f x) (flat_map f xs) each.0 (all_flat_map f xs each.1)

  pub all_of_flat_map : {B : Type 0} (f : B → List A) (xs : List B) → AllByRecursion P (flat_map f xs) → AllByRecursion (λ x. AllByRecursion P (f x)) xs
  all_of_flat_map f [] each = tt
  all_of_flat_map f (x ∷ xs) each = (all_front (f x) (flat_map f xs) each, all_of_flat_map f xs (all_back (f x) (flat_map f xs) each))

  pub all_if : (b : Bool) (x : A) (xs : List A) → P x → AllByRecursion P xs → AllByRecursion P (cond b (x ∷ xs) xs)
  all_if true x xs is each = (is, each)
  all_if false x xs is each = each

  pub all_kept : (p : A → Bool) (xs : List A) → AllByRecursion P xs → AllByRecursion P (filter p xs)
  all_kept p [] each = tt
  all_kept p (x ∷ xs) each = all_if (p x) x (filter p xs) each.0 (all_kept p xs each.1)

  pub all_option : (o : Option A) (xs : List A) → ((x : A) → o ≡ Some x → P x) → AllByRecursion P xs → AllByRecursion P (cons_option o xs)
  all_option None xs is each = each
  all_option (Some x) xs is each = (is x refl, each)

  pub all_filter_map : {B : Type 0} (f : B → Option A) (bs : List B) → AllByRecursion (λ b. (x : A) → f b ≡ Some x → P x) bs → AllByRecursion P (filter_map f bs)
  all_filter_map f [] each = tt
  all_filter_map f (b ∷ bs) each = all_option (f b) (filter_map f bs) each.0 (all_filter_map f bs each.1)

  module _ (R : A → A → Ordering) where
    all_placed : (r : Ordering) (x y : A) (ys further : List A) → P x → AllByRecursion P (y ∷ ys) → AllByRecursion P further → AllByRecursion P (placed r x y ys further)
    all_placed Less x y ys further is each more = (is, each)
    all_placed Equal x y ys further is each more = each
    all_placed Greater x y ys further is each more = (each.0, more)

    pub all_with : (x : A) (ys : List A) → P x → AllByRecursion P ys → AllByRecursion P (with R x ys)
    all_with x [] is each = (is, tt)
    all_with x (y ∷ ys) is each = all_placed (R x y) x y ys (with R x ys) is each (all_with x ys is each.1)

    pub all_set_of : (xs : List A) → AllByRecursion P xs → AllByRecursion P (set_of R xs)
    all_set_of [] each = tt
    all_set_of (x ∷ xs) each = all_with x (set_of R xs) each.0 (all_set_of xs each.1)

    pub all_union : (xs ys : List A) → AllByRecursion P xs → AllByRecursion P ys → AllByRecursion P (union R xs ys)
    all_union xs ys each others = all_set_of (xs ++ ys) (all_joined xs ys each others)

pub none_passes : {A : Type 0} (p : A → Bool) (xs : List A) → list_any p xs ≡ false → AllByRecursion (λ x. p x ≡ false) xs
none_passes p [] e = tt
none_passes p (x ∷ xs) e = let h = or_parts (p x) (list_any p xs) e in (h.0, none_passes p xs h.1)
