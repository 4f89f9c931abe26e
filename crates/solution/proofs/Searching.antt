-- Binary search in sorted values finds what a filter keeps.
use Rattle.std.specs.Prelude.{filter, slice_range}
use Rattle.std.proofs.Common.{◌≡◌, ◌<◌, ◌≤◌, ◌-◌, ℕ, true, false, List, inl, inr, refl, sym, ◌∙◌, length, arith}
use Rattle.std.proofs.lemmas.Bool.{false≢true, cases_lt}
use Rattle.std.proofs.lemmas.List.Sorted.{searchable_from_sorted, IsPartitionedBy-ltb}
use Rattle.std.specs.List.Sorted.{IsSortedByKey, IsPartitionedBy, IsPartitionPoint}
use Rattle.std.specs.Cmp.{IsTotalOrder}
use Rattle.std.specs.Ordering.{is_eq, is_lt, is_le, ordering_index}
use Rattle.std.specs.declared.cmp.Ordering.{Ordering}
use Rattle.std.specs.declared.cmp.Ordering.TheVariants.{Less, Equal, Greater}
use Rattle.sets.proofs.Filters.{kept_middle}
use lib.Dec.{ltb}

less_is : (r : Ordering) → is_lt r ≡ ltb (ordering_index r) 1
less_is Less = refl
less_is Equal = refl
less_is Greater = refl

up_to_is : (r : Ordering) → is_le r ≡ ltb (ordering_index r) 2
up_to_is Less = refl
up_to_is Equal = refl
up_to_is Greater = refl

module _ {K : Type 0} {R : K → K → Ordering} (o : IsTotalOrder R) {E : Type 0} (key : E → K) (x : K) (xs : List E) (s : IsSortedByKey key R xs) where
  pub less_partitioned : IsPartitionedBy (λ e. is_lt (R (key e) x)) xs
  less_partitioned =
      let parts = IsPartitionedBy-ltb (λ (e : E). ordering_index (R (key e) x)) xs 1 (searchable_from_sorted o key xs x s) in
      λ i j e le lt h. less_is _ ∙ parts i j e le lt (sym (less_is _) ∙ h)

  pub up_to_partitioned : IsPartitionedBy (λ e. is_le (R (key e) x)) xs
  up_to_partitioned =
      let parts = IsPartitionedBy-ltb (λ (e : E). ordering_index (R (key e) x)) xs 2 (searchable_from_sorted o key xs x s) in
      λ i j e le lt h. up_to_is _ ∙ parts i j e le lt (sym (up_to_is _) ∙ h)

-- the places found are in order: a value at the second and before the first would be both less and
-- greater
less_than_all : (r : Ordering) → is_lt r ≡ true → is_le r ≡ false → ⊥
less_than_all Less e f = false≢true (sym f)
less_than_all Equal e f = false≢true e
less_than_all Greater e f = false≢true e

equal_between : (r : Ordering) → is_lt r ≡ false → is_le r ≡ true → is_eq r ≡ true
equal_between Less e f = absurd (false≢true (sym e))
equal_between Equal e f = refl
equal_between Greater e f = absurd (false≢true f)

not_equal_before : (r : Ordering) → is_lt r ≡ true → is_eq r ≡ false
not_equal_before Less e = refl
not_equal_before Equal e = absurd (false≢true e)
not_equal_before Greater e = refl

not_equal_past : (r : Ordering) → is_le r ≡ false → is_eq r ≡ false
not_equal_past Less e = refl
not_equal_past Equal e = absurd (false≢true (sym e))
not_equal_past Greater e = refl

apart : (x y : ℕ) → (y < x → ⊥) → x ≤ y
apart x y f = elim (cases_lt y x) [ inl h ↦ absurd (f h) | inr h ↦ h ]

module _ {E : Type 0} (answer : E → Ordering) (xs : List E) (low high : ℕ) (starts : IsPartitionPoint (λ e. is_lt (answer e) ≡ true) (λ e. is_lt (answer e) ≡ false) xs low) (ends : IsPartitionPoint (λ e. is_le (answer e) ≡ true) (λ e. is_le (answer e) ≡ false) xs high) where
  pub places_ordered : (d : E) → low ≤ length xs → low ≤ high
  places_ordered d w =
      apart low high (λ lt. less_than_all _ (starts.0 high d (omega arith) lt) (ends.1 high d (omega arith) (omega arith)))

  pub part_is : low ≤ high → high ≤ length xs → slice_range xs low high ≡ filter (λ e. is_eq (answer e)) xs
  part_is le w =
      kept_middle (λ e. is_eq (answer e)) xs low high le w
      (λ k d l h. not_equal_before _ (starts.0 k d l h))
      (λ k d l h. equal_between _ (starts.1 k d l (omega arith)) (ends.0 k d (omega arith) h))
      (λ k d l h. not_equal_past _ (ends.1 k d l h))
