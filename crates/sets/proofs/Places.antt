-- Places in a set.
use Rattle.std.specs.Prelude.{◌⊎◌, Result, Ok, Err, IfNone}
use Rattle.std.specs.Result.{result_ok}
use Rattle.std.proofs.Common.{◌≡◌, ℕ, zero, suc, ◌<◌, ◌≤◌, false, ◌||◌, List, [], ◌∷◌, length, get_or, inl, inr, refl, sym, ap, ◌∙◌, arith}
use Rattle.std.specs.List.Sorted.{IsStrictlySortedBy, IsNonDecreasingBy, IsPartitionPoint, IsBinarySearchResult}
use Rattle.std.specs.declared.cmp.Ordering.{Ordering}
use Rattle.std.specs.declared.cmp.Ordering.TheVariants.{Less, Equal, Greater}
use Rattle.std.specs.Ordering.{eq_by_cmp, is_eq, ordering_index, ordering_reverse}
use Rattle.std.specs.Cmp.{IsTotalOrder, alike_right}
use Rattle.std.proofs.lemmas.Bool.{cases_lt}
use Rattle.std.proofs.Math.Nat.{eq-or-lt_of_le}
use Rattle.std.proofs.lemmas.Map.Keys.{Less-from_sorted}
use Rattle.sets.specs.Sets.{has}

module _ {A : Type 0} {R : A → A → Ordering} (o : IsTotalOrder R) (exact : (x y : A) → R x y ≡ Equal → x ≡ y) (x : A) where
  -- what is below a value that is at most x is below x
  index_below : (y z : A) → R y z ≡ Less → (r : Ordering) → R z x ≡ r → ordering_index (R y x) ≤ ordering_index r
  index_below y z lt Less e = ap_le (o.trans y z x lt e)
    where
      ap_le : R y x ≡ Less → ordering_index (R y x) ≤ 0
      ap_le k = let zero_is : ordering_index (R y x) ≡ 0 = ap ordering_index k in (omega (arith, zero_is))
  index_below y z lt Equal e = at_most (sym (alike_right o z x y e) ∙ lt)
    where
      at_most : R y x ≡ Less → ordering_index (R y x) ≤ 1
      at_most k = let zero_is : ordering_index (R y x) ≡ 0 = ap ordering_index k in (omega (arith, zero_is))
  index_below y z lt Greater e = index_small (R y x)
    where
      index_small : (r : Ordering) → ordering_index r ≤ 2
      index_small Less = omega arith
      index_small Equal = omega arith
      index_small Greater = omega arith

  pub rises : (xs : List A) → IsStrictlySortedBy R xs → IsNonDecreasingBy (λ y. ordering_index (R y x)) xs
  rises xs s i j d le h = cases (eq-or-lt_of_le le)
    where
      cases : (i ≡ j) ⊎ (i < j) → ordering_index (R (get_or xs i d) x) ≤ ordering_index (R (get_or xs j d) x)
      cases (inr lt) = index_below (get_or xs i d) (get_or xs j d) (Less-from_sorted R xs i j d s lt h) (R (get_or xs j d) x) refl
      cases (inl e) = let same : ordering_index (R (get_or xs i d) x) ≡ ordering_index (R (get_or xs j d) x) = ap (λ k. ordering_index (R (get_or xs k d) x)) e in (omega (arith, same))

  none_at : (xs : List A) → ((k : ℕ) (d : A) → k < length xs → eq_by_cmp R x (get_or xs k d) ≡ false) → has R xs x ≡ false
  none_at [] each = refl
  none_at (y ∷ ys) each =
      ap (λ b. b || has R ys x) (each zero y (omega arith)) ∙ none_at ys (λ k d h. each (suc k) d (omega (arith, h)))

  -- where a search that ends between the lower and the greater found nothing, the set lacks it
  pub lacks : (xs : List A) (i : ℕ) → IsPartitionPoint (λ y. R y x ≡ Less) (λ y. R y x ≡ Greater) xs i → has R xs x ≡ false
  lacks xs i p = none_at xs at
    where
      at : (k : ℕ) (d : A) → k < length xs → eq_by_cmp R x (get_or xs k d) ≡ false
      at k d h = elim (cases_lt k i) as (λ _. eq_by_cmp R x (get_or xs k d) ≡ false) [
        | inl lt ↦ ap is_eq (o.antisymm x (get_or xs k d) ∙ ap ordering_reverse (p.0 k d (omega arith) lt))
        | inr ge ↦ ap is_eq (o.antisymm x (get_or xs k d) ∙ ap ordering_reverse (p.1 k d ge h))
      ]

  -- what a search says of a set that it found nothing in
  pub absent : (xs : List A) (r : Result ℕ ℕ) → IsBinarySearchResult (λ y. R y x) xs r → IsStrictlySortedBy R xs → IfNone (result_ok r) (has R xs x ≡ false)
  absent xs (Ok i) h s = tt
  absent xs (Err i) h s = lacks xs i (h (rises xs s))
