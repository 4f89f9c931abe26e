use Rattle.std.proofs.Common.{sym, ◌∙◌}
use Rattle.std.proofs.lemmas.List.Filters.{dedup_is}
use Rattle.std.proofs.lemmas.List.Kept.{IsStrictlySortedBy-dedup, Contains-dedup, Contains-from_dedup}
use Rattle.std.proofs.lemmas.List.Sorted.{Contains-permutation, IsPermutation-sym}
use Rattle.sets.specs.Sets.{set_of}
use Rattle.sets.proofs.SetLaws.{same_set, sorted-set_of, has-set_of, has_alike, exact_by}
use Rattle.quad_sets.proofs.lists.merged.Goals as goal

pub returns : goal.returns
returns g c =
    let is = dedup_is _ _ _ c.dedup.ensures.filtered in
    let total = g.met.T.Ord.total in
    let exact = g.met.T.Exact.exact in
    let ties = g.met.T.Ord.matches_eq in
    let moved = c.in_ok-sort.ensures.permutation in
    let v = c.args.members.items in
    is ∙ same_set total exact _ (set_of g.T.Ord.cmp v) (IsStrictlySortedBy-dedup total ties _ c.in_ok-sort.ensures.sorted) (sorted-set_of total v)
    (λ q. has_alike total exact _ v
    (λ x h. Contains-permutation _ _ x (IsPermutation-sym _ _ moved) (Contains-from_dedup _ _ x h))
    (λ x h. Contains-dedup g.met.T.Eq.laws (λ x y e. exact_by total exact x y (sym (ties x y) ∙ e)) _ x (Contains-permutation _ _ x moved h)) q
    ∙ sym (has-set_of total q v))
