use Rattle.std.proofs.Common.{ℕ, List, sym, subst}
use Rattle.std.specs.List.{Contains}
use Rattle.std.proofs.lemmas.List.Filters.{dedup_is}
use Rattle.std.proofs.lemmas.List.Kept.{Contains-dedup_nat, Contains-from_dedup}
use Rattle.std.proofs.lemmas.List.Sorted.{Contains-permutation, IsPermutation-sym}
use Rattle.store.proofs.numbers.distinct.Goals as goal

pub returns-clause-kept : goal.returns-clause-kept
returns-clause-kept c = λ place h.
    let first = subst (λ (xs : List ℕ). Contains xs place) (sym (dedup_is _ _ _ c.dedup.ensures.filtered)) (Contains-dedup_nat _ place h) in
    subst (λ (xs : List ℕ). Contains xs place) (sym (dedup_is _ _ _ c.dedup-2.ensures.filtered))
    (Contains-dedup_nat _ place (Contains-permutation _ _ place c.sort_unstable.ensures.permutation first))

pub returns-clause-only : goal.returns-clause-only
returns-clause-only c = λ place h.
    let last = Contains-from_dedup _ _ place (subst (λ (xs : List ℕ). Contains xs place) (dedup_is _ _ _ c.dedup-2.ensures.filtered) h) in
    let sorted = Contains-permutation _ _ place (IsPermutation-sym _ _ c.sort_unstable.ensures.permutation) last in
    Contains-from_dedup _ _ place (subst (λ (xs : List ℕ). Contains xs place) (dedup_is _ _ _ c.dedup.ensures.filtered) sorted)
