-- A list that has each term of another.
use Rattle.std.specs.Prelude.{slice_index_or}
use Rattle.std.proofs.Common.{◌≡◌, ℕ, zero, suc, ◌<◌, Bool, true, false, ◌||◌, cond, List, [], ◌∷◌, ◌++◌, length, take, slice_get, Some, ◌+◌, refl, sym, ap, ◌∙◌, subst, true≢false}
use Rattle.std.specs.List.{list_all, list_any}
use Rattle.std.specs.Ordering.{eq_by_cmp}
use Rattle.std.proofs.lemmas.Bool.{and_parts, and_from}
use Rattle.std.proofs.lemmas.Option.{same_Some}
use Rattle.sets.proofs.Filters.{each_joined}
use Rattle.indexmap.specs.IndexSet.{insert_key}
use Rattle.terms.specs.declared.term.Term.{Term}
use Rattle.terms.specs.Term.{term_order}
use Rattle.terms.specs.Hashed.{equal_terms}
use Rattle.store.proofs.Holding.{all_parts}
use Rattle.numbering.specs.Gathered.{HasTerms, HasMore}
use Rattle.numbering.proofs.Places.{loop_item}

module _ (p : Term → Bool) where
  -- what holds of all terms holds of one that is among them
  among : (ts : List Term) (t : Term) → list_any (eq_by_cmp term_order t) ts ≡ true → list_all p ts ≡ true → p t ≡ true
  among [] t h all = absurd (true≢false (sym h))
  among (x ∷ xs) t h all = by (eq_by_cmp term_order t x) refl (λ e. among xs t (sym (ap (λ b. b || list_any (eq_by_cmp term_order t) xs) e) ∙ h) (and_parts (p x) (list_all p xs) all).1)
    where
      by : (b : Bool) → eq_by_cmp term_order t x ≡ b → (eq_by_cmp term_order t x ≡ false → p t ≡ true) → p t ≡ true
      by true e rest = subst (λ y. p y ≡ true) (sym (equal_terms t x e)) (and_parts (p x) (list_all p xs) all).0
      by false e rest = rest e

  -- and of all after one more, of that one and of all before
  put_in : (old : List Term) (t : Term) → list_all p (insert_key (eq_by_cmp term_order) old t) ≡ true → (list_all p old ≡ true) × (p t ≡ true)
  put_in old t h = by (list_any (eq_by_cmp term_order t) old) refl
    where
      by : (b : Bool) → list_any (eq_by_cmp term_order t) old ≡ b → (list_all p old ≡ true) × (p t ≡ true)
      by true e = let all : list_all p old ≡ true = sym (ap (λ c. list_all p (cond c old (old ++ t ∷ []))) e) ∙ h in (all, among old t e all)
      by false e =
          let parts = all_parts p old (t ∷ []) (sym (ap (λ c. list_all p (cond c old (old ++ t ∷ []))) e) ∙ h) in
          (parts.0, (and_parts (p t) true parts.1).0)

-- a term is there already, or is put in
pub there_already : (found : List Term) (t : Term) → list_any (eq_by_cmp term_order t) found ≡ true → HasMore found found t
there_already found t h = λ p all. (all, among p found t h all)

pub is_put_in : (old new : List Term) (copy t : Term) → copy ≡ t → new ≡ insert_key (eq_by_cmp term_order) old copy → HasMore old new t
is_put_in old new copy t same made = λ p all. let both = put_in p old copy (sym (ap (list_all p) made) ∙ all) in (both.0, subst (λ x. p x ≡ true) same both.1)

-- the next of the terms more
pub one_more : (terms : List Term) (i : ℕ) (item t : Term) (old new : List Term) → i < length terms → item ≡ slice_index_or terms i item → t ≡ item
    → HasMore old new t → HasTerms old (take i terms) → HasTerms new (take (i + 1) terms)
one_more terms i item t old new lt is same more has =
    loop_item (HasTerms new) terms i item lt is (λ p h. each_joined p (take i terms) (item ∷ []) (has p (more p h).0) (and_from (p item) true (subst (λ x. p x ≡ true) same (more p h).1) refl))

-- what stands at a place of a list is in it
any_at : (ks : List Term) (i : ℕ) (t k : Term) → slice_get ks i ≡ Some k → eq_by_cmp term_order t k ≡ true → list_any (eq_by_cmp term_order t) ks ≡ true
any_at [] i t k at same = absurd cc
any_at (x ∷ xs) zero t k at same = ap (λ b. b || list_any (eq_by_cmp term_order t) xs) (ap (eq_by_cmp term_order t) (same_Some x k at) ∙ same)
any_at (x ∷ xs) (suc i) t k at same = by (eq_by_cmp term_order t x) (any_at xs i t k at same)
  where
    by : (b : Bool) → list_any (eq_by_cmp term_order t) xs ≡ true → (b || list_any (eq_by_cmp term_order t) xs) ≡ true
    by true h = refl
    by false h = h

pub found_at : (ks : List Term) (i : ℕ) (t k : Term) → Some k ≡ slice_get ks i → eq_by_cmp term_order t k ≡ true → list_any (eq_by_cmp term_order t) ks ≡ true
found_at ks i t k at same = any_at ks i t k (sym at) same
