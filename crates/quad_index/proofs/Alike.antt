-- What is found in another order, sorted back, is what is found in the set.
use Rattle.std.specs.Prelude.{Bool, ◌&&◌, filter}
use Rattle.std.specs.List.{list_any, Contains}
use Rattle.std.proofs.Common.{◌≡◌, ◌+◌, ◌*◌, ◌^◌, ◌<◌, ◌≤◌, ℕ, zero, suc, cond, List, [], ◌∷◌, sym, subst, ap, ◌∙◌, length, get_or, arith}
use Rattle.std.proofs.lemmas.List.{get_or-map, length-map}
use Rattle.std.proofs.lemmas.List.Sums.{length-filter}
use Rattle.std.proofs.lemmas.List.Sorted.{sum_by-IsPermutation}
use Rattle.std.specs.List.Sorted.{IsPermutation}
use Rattle.quad_lists.specs.declared.key.Arrangement.{Arrangement}
use Rattle.quad_lists.specs.declared.key.Arrangement.TheVariants.{Spog}
use Rattle.quad_index.specs.declared.order.Order.{Order}
use Rattle.quad_index.specs.Index.{arrangements_of}
use Rattle.quad_index.specs.Looks.{IsScan}
use Rattle.std.proofs.lemmas.List.Kept.{IsStrictlySortedBy-filter}
use Rattle.std.specs.List.Sorted.{IsStrictlySortedBy}
use Rattle.std.specs.Ordering.{eq_by_cmp}
use Rattle.sets.specs.Sets.{set_of}
use Rattle.sets.proofs.SetLaws.{same_set, sorted-set_of, has-set_of, has-filter}
use Rattle.datasets.specs.declared.id.Id.{Id}
use Rattle.datasets.specs.declared.quad.Quad.{Quad}
use Rattle.datasets.specs.Dataset.{quad_order}
use Rattle.datasets.specs.Id.{id_order, id_total, id_exact, quad_total, quad_exact}

-- lists that no test tells apart, of which one is a set
pub sorted_back : (p : Quad Id → Bool) (quads others : List (Quad Id)) → IsStrictlySortedBy (quad_order id_order) quads → ((t : Quad Id → Bool) → list_any t others ≡ list_any t quads)
    → set_of (quad_order id_order) (filter p others) ≡ filter p quads
sorted_back p quads others rises alike =
    let R = quad_order id_order in
    let total = quad_total id_total in
    let exact = quad_exact id_order id_exact in
    same_set total exact (set_of R (filter p others)) (filter p quads) (sorted-set_of total (filter p others)) (IsStrictlySortedBy-filter R p quads rises)
    (λ q. has-set_of total q (filter p others) ∙ has-filter total exact p q others ∙ ap (λ b. b && p q) (alike (eq_by_cmp R q)) ∙ sym (has-filter total exact p q quads))

pub same_count : (p : Quad Id → Bool) (quads others : List (Quad Id)) → IsPermutation quads others → length (filter p others) ≡ length (filter p quads)
same_count p quads others h = length-filter p others ∙ sum_by-IsPermutation (λ q. cond (p q) 1 0) quads others h ∙ sym (length-filter p quads)

pub scan_of : (before after : ℕ) (quads others answer found : List (Quad Id)) → length others ≡ length quads → length found ≡ length answer → IsScan before after (length others) (length found) → IsScan before after (length quads) (length answer)
scan_of before after quads others answer found n m h digits fits =
    let bound = h digits (subst (λ k. k < 2 ^ digits) (sym n) fits) in
    subst (λ k. after ≤ before + (2 * digits + k)) m bound

-- an order that is none of these, and that is kept, is SPOG
pub kept_first : (others : List Order) (n : ℕ) (a : Arrangement) → length others ≤ n → ((k : ℕ) (d : Order) → k < n → (get_or others k d).arrangement ≡ a → ⊥) → Contains (Spog ∷ arrangements_of others) a → a ≡ Spog
kept_first others n a le h (zero, lt, is) = sym is
kept_first [] n a le h (suc k, lt, is) = absurd (omega arith)
kept_first (o ∷ os) n a le h (suc k, lt, is) =
    let count : length (arrangements_of (o ∷ os)) ≡ length (o ∷ os) = length-map (o ∷ os) (λ (x : Order). x.arrangement) in
    let inside : k < length (o ∷ os) = omega arith in
    absurd (h k o (omega arith) (sym (get_or-map (λ (x : Order). x.arrangement) (o ∷ os) k o a inside) ∙ is))
