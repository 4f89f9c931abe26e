-- Taking the terms of a sorted list one after another makes the set of those that are written.
use Rattle.std.specs.Prelude.{Bool, ◌&&◌, if◌then◌else◌}
use Rattle.std.proofs.Common.{◌≡◌, true, false, cond, List, [], ◌∷◌, ◌++◌, filter, refl, sym, ap, ◌∙◌}
use Rattle.std.specs.List.{dedup, dedup_from, fold}
use Rattle.std.specs.List.Sorted.{IsPermutation, IsSorted}
use Rattle.std.specs.Ordering.{eq_by_cmp, is_lt}
use Rattle.std.specs.Cmp.{eq_by_cmp_equiv}
use Rattle.std.proofs.lemmas.List.{append_assoc, append-nil}
use Rattle.std.proofs.lemmas.List.Kept.{IsStrictlySortedBy-dedup, IsSortedBy-filter, Contains-dedup, Contains-from_dedup}
use Rattle.std.proofs.lemmas.List.Sorted.{list_any-IsPermutation, ranks_by}
use Rattle.sets.specs.Sets.{set_of}
use Rattle.sets.proofs.SetLaws.{same_set, sorted-set_of, has-set_of, has_alike, has-filter}
use Rattle.terms.specs.declared.term.Term.{Term}
use Rattle.terms.specs.Term.{term_order}
use Rattle.terms.specs.TermLaws.{term_total, term_exact}
use Rattle.terms.specs.Hashed.{equal_terms}
use Rattle.dict.specs.Dictionary.{is_written}
use Rattle.dict.specs.Ranks.{ends_with, with_next, taken}

abbrev same : Term → Term → Bool
same = eq_by_cmp term_order

-- a list with more before it ends as before
ends_past : (k y x : Term) (ys : List Term) → ends_with (k ∷ dedup_from same y ys) x ≡ ends_with (dedup_from same y ys) x
ends_past k y x [] = refl
ends_past k y x (z ∷ zs) =
    elim (same z y) as (λ b. ends_with (k ∷ cond b (dedup_from same y zs) (y ∷ dedup_from same z zs)) x ≡ ends_with (cond b (dedup_from same y zs) (y ∷ dedup_from same z zs)) x) [
      | true ↦ ends_past k y x zs
      | false ↦ refl
    ]

-- one more is kept where it isn't the last that is kept
abbrev kept : List Term → Term → List Term
kept xs x = if ends_with xs x then xs else xs ++ x ∷ []

kept_past : (k y x : Term) (ys : List Term) → k ∷ kept (dedup_from same y ys) x ≡ kept (k ∷ dedup_from same y ys) x
kept_past k y x ys =
    let d = dedup_from same y ys in
    ends_alike (ends_with d x) (ends_with (k ∷ d) x) d (sym (ends_past k y x ys))
  where
    ends_alike : (b c : Bool) (d : List Term) → b ≡ c → k ∷ (if b then d else d ++ x ∷ []) ≡ (if c then k ∷ d else k ∷ d ++ x ∷ [])
    ends_alike b c d e = flat b d ∙ ap (λ z. if z then k ∷ d else k ∷ d ++ x ∷ []) e
      where
        flat : (b : Bool) (d : List Term) → k ∷ (if b then d else d ++ x ∷ []) ≡ (if b then k ∷ d else k ∷ d ++ x ∷ [])
        flat true d = refl
        flat false d = refl

with_last : (k x : Term) (xs : List Term) → dedup_from same k (xs ++ x ∷ []) ≡ kept (dedup_from same k xs) x
with_last k x [] = refl
with_last k x (y ∷ ys) =
    elim (same y k) as (λ b. cond b (dedup_from same k (ys ++ x ∷ [])) (k ∷ dedup_from same y (ys ++ x ∷ [])) ≡ kept (cond b (dedup_from same k ys) (k ∷ dedup_from same y ys)) x) [
      | true ↦ with_last k x ys
      | false ↦ ap (λ (zs : List Term). k ∷ zs) (with_last y x ys) ∙ kept_past k y x ys
    ]

with_one : (xs : List Term) (x : Term) → kept (dedup same xs) x ≡ dedup same (xs ++ x ∷ [])
with_one [] x = refl
with_one (k ∷ xs) x = sym (with_last k x xs)

taken_after : (before terms : List Term) → fold with_next (dedup same before) terms ≡ dedup same (before ++ filter is_written terms)
taken_after before [] = ap (dedup same) (sym (append-nil before))
taken_after before (x ∷ xs) =
    elim (is_written x) as (λ b. fold with_next (if b then kept (dedup same before) x else dedup same before) xs ≡ dedup same (before ++ cond b (x ∷ filter is_written xs) (filter is_written xs))) [
      | true ↦ ap (λ (ys : List Term). fold with_next ys xs) (with_one before x) ∙ taken_after (before ++ x ∷ []) xs ∙ ap (dedup same) (append_assoc before (x ∷ []) (filter is_written xs))
      | false ↦ taken_after before xs
    ]

pub taken_sorted : (terms sorted : List Term) → IsPermutation terms sorted → IsSorted term_order sorted → taken sorted ≡ set_of term_order (filter is_written terms)
taken_sorted terms sorted moved s =
    let kept_of = filter is_written sorted in
    let rises = IsSortedBy-filter (λ x y. is_lt (term_order x y)) (ranks_by term_total (λ (x : Term). x)) is_written sorted s in
    taken_after [] sorted
    ∙ same_set term_total term_exact (dedup same kept_of) (set_of term_order (filter is_written terms))
    (IsStrictlySortedBy-dedup term_total (λ x y. refl) kept_of rises) (sorted-set_of term_total (filter is_written terms))
    (λ q. has_alike term_total term_exact (dedup same kept_of) kept_of
    (λ x h. Contains-from_dedup same kept_of x h) (λ x h. Contains-dedup (eq_by_cmp_equiv term_total) equal_terms kept_of x h) q
    ∙ has-filter term_total term_exact is_written q sorted
    ∙ ap (λ b. b && is_written q) (sym (list_any-IsPermutation (eq_by_cmp term_order q) terms sorted moved))
    ∙ sym (has-filter term_total term_exact is_written q terms) ∙ sym (has-set_of term_total q (filter is_written terms)))
