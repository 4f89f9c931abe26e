-- Differences of lists, member by member.
use Rattle.std.specs.Prelude.{not, if◌then◌else◌}
use Rattle.std.proofs.Common.{◌≡◌, ℕ, zero, suc, ◌||◌, ◌+◌, ◌-◌, ◌<◌, ◌≤◌, true, false, List, [], ◌∷◌, ◌++◌, length, get_or, take, drop, set, add-zero, ◌⊎◌, inl, inr, refl, sym, ap, ◌∙◌, arith}
use Rattle.std.specs.List.Sorted.{IsStrictlySortedBy}
use Rattle.std.specs.declared.cmp.Ordering.{Ordering}
use Rattle.std.specs.declared.cmp.Ordering.TheVariants.{Less, Equal, Greater}
use Rattle.std.specs.Ordering.{eq_by_cmp, is_eq, ordering_reverse}
use Rattle.std.proofs.lemmas.Bool.{or_right}
use Rattle.std.specs.Cmp.{IsTotalOrder}
use Rattle.std.proofs.lemmas.List.{append-nil, take_more, take_more_set, drop-drop, drop-set-lt, get_or-drop}
use Rattle.std.proofs.lemmas.List.Elements.{filter-append}
use Rattle.std.proofs.Math.Nat.{eq-or-lt_of_le}
use Rattle.std.proofs.lemmas.Map.Keys.{Less-from_sorted}
use Rattle.sets.specs.Sets.{has, without}
use Rattle.sets.proofs.Places.{lacks}

-- ---- where a value would stand in a set

module _ {A : Type 0} {R : A → A → Ordering} (o : IsTotalOrder R) (exact : (x y : A) → R x y ≡ Equal → x ≡ y) (v : A) (xs : List A) (i : ℕ) (s : IsStrictlySortedBy R xs) where
  below : ((d : A) → 0 < i → R (get_or xs (i - 1) d) v ≡ Less) → i ≤ length xs → (k : ℕ) (d : A) → k < i → R (get_or xs k d) v ≡ Less
  below low within k d lt = cases (eq-or-lt_of_le {n = k} {m = i - 1} (omega arith))
    where
      cases : (k ≡ i - 1) ⊎ (k < i - 1) → R (get_or xs k d) v ≡ Less
      cases (inl e) = ap (λ n. R (get_or xs n d) v) e ∙ low d (omega arith)
      cases (inr before) = o.trans _ _ v (Less-from_sorted R xs k (i - 1) d s before (omega arith)) (low d (omega arith))

  above : ((d : A) → i < length xs → R (get_or xs i d) v ≡ Greater) → (k : ℕ) (d : A) → i ≤ k → k < length xs → R (get_or xs k d) v ≡ Greater
  above high k d le h = cases (eq-or-lt_of_le le)
    where
      cases : (i ≡ k) ⊎ (i < k) → R (get_or xs k d) v ≡ Greater
      cases (inl e) = ap (λ n. R (get_or xs n d) v) (sym e) ∙ high d (omega arith)
      cases (inr behind) =
          o.antisymm (get_or xs k d) v ∙ ap ordering_reverse (o.trans v (get_or xs i d) (get_or xs k d) (o.antisymm v (get_or xs i d) ∙ ap ordering_reverse (high d (omega arith))) (Less-from_sorted R xs i k d s behind h))

  -- it lacks what is above the member before a place, and below the one there
  pub lacks_between : ((d : A) → 0 < i → R (get_or xs (i - 1) d) v ≡ Less) → i ≤ length xs → ((d : A) → i < length xs → R (get_or xs i d) v ≡ Greater) → has R xs v ≡ false
  lacks_between low within high = lacks o exact v xs i (λ k d from lt. below low within k d lt, λ k d from h. above high k d from h)

-- it has what is found at a place
pub has_held : {A : Type 0} {R : A → A → Ordering} (o : IsTotalOrder R) (v : A) (xs : List A) (i : ℕ) → i < length xs → ((d : A) → R (get_or xs i d) v ≡ Equal) → has R xs v ≡ true
has_held o v [] i h e = absurd (omega (arith, h))
has_held {A} {R} o v (y ∷ ys) zero h e = ap (λ r. is_eq r || has R ys v) (o.antisymm v y ∙ ap ordering_reverse (e y))
has_held {A} {R} o v (y ∷ ys) (suc i) h e = or_right (eq_by_cmp R v y) (has R ys v) (has_held o v ys i (omega (arith, h)) e)

-- the empty set has nothing
pub without_none : {A : Type 0} (R : A → A → Ordering) (xs : List A) → without R xs [] ≡ xs
without_none R [] = refl
without_none R (x ∷ xs) = ap (λ ys. x ∷ ys) (without_none R xs)

-- ---- a loop that goes along a list, and writes over it those that a set lacks

module _ {A : Type 0} (R : A → A → Ordering) (others now first : List A) (i kept : ℕ) (x : A) (within : i < length now) (long : length now ≡ length first) (rest : drop i now ≡ drop i first) (is : x ≡ get_or now i x) where
  pub drop_next : drop (i + 1) now ≡ drop (i + 1) first
  drop_next = sym (drop-drop 1 i now) ∙ ap (drop 1) rest ∙ drop-drop 1 i first

  same_at : x ≡ get_or first i x
  same_at =
      is
      ∙ ap (λ n. get_or now n x) (sym (add-zero i))
      ∙ sym (get_or-drop i now 0 x)
      ∙ ap (λ xs. get_or xs 0 x) rest
      ∙ get_or-drop i first 0 x
      ∙ ap (λ n. get_or first n x) (add-zero i)

  without_next : without R (take (i + 1) first) others ≡ without R (take i first) others ++ without R (x ∷ []) others
  without_next =
      ap (λ xs. without R xs others) (take_more first i x (omega arith) ∙ ap (λ y. take i first ++ y ∷ []) (sym same_at))
      ∙ filter-append (λ y. not (has R others y)) (take i first) (x ∷ [])

  -- the set has it
  pub had : has R others x ≡ true → take kept now ≡ without R (take i first) others → take kept now ≡ without R (take (i + 1) first) others
  had e before = before ∙ sym (without_next ∙ ap (λ b. without R (take i first) others ++ (if not b then x ∷ [] else [])) e ∙ append-nil (without R (take i first) others))

  -- the set lacks it
  pub lacked : has R others x ≡ false → kept ≤ i → take kept now ≡ without R (take i first) others → take (kept + 1) (set now kept x) ≡ without R (take (i + 1) first) others
  lacked e at before =
      take_more_set now kept x (omega arith)
      ∙ ap (λ ys. ys ++ x ∷ []) before
      ∙ sym (without_next ∙ ap (λ b. without R (take i first) others ++ (if not b then x ∷ [] else [])) e)

  pub drop_lacked : kept ≤ i → drop (i + 1) (set now kept x) ≡ drop (i + 1) first
  drop_lacked at = drop-set-lt (i + 1) now kept x (omega arith) ∙ drop_next
