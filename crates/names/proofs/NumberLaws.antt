-- The names of variables as a set.
use Rattle.std.proofs.Common.{◌≡◌, ℕ, zero, suc, false, cond, List, [], ◌∷◌, length, Some, slice_get, refl, sym, ap, ◌∙◌}
use Rattle.std.specs.List.{AllByRecursion}
use Rattle.std.specs.declared.cmp.Ordering.{Ordering}
use Rattle.std.specs.declared.cmp.Ordering.TheVariants.{Less}
use Rattle.std.specs.Ordering.{is_eq, ordering_reverse}
use Rattle.std.specs.Cmp.{tied_itself}
use Rattle.std.specs.List.Sorted.{IsStrictlySortedBy}
use Rattle.std.proofs.lemmas.Option.{same_Some}
use Rattle.std.proofs.lemmas.Bool.{or_parts}
use Rattle.std.proofs.lemmas.Map.Keys.{sorted_tail, sorted_head}
use Rattle.sets.specs.Sets.{set_of, has}
use Rattle.sets.proofs.SetLaws.{sorted-set_of}
use Rattle.terms.specs.Term.{text_cmp}
use Rattle.terms.specs.TermLaws.{text_total}
use Rattle.names.specs.Numbers.{number_of}

pub sorted : (names : List (List ℕ)) → IsStrictlySortedBy text_cmp (set_of text_cmp names)
sorted names = sorted-set_of text_total names

-- what isn't in a list has the number after its members
pub none_is : (vs : List (List ℕ)) (v : List ℕ) → has text_cmp vs v ≡ false → number_of vs v ≡ length vs
none_is [] v e = refl
none_is (w ∷ ws) v e =
    let h = or_parts (is_eq (text_cmp v w)) (has text_cmp ws v) e in
    ap (λ b. cond b 0 (suc (number_of ws v))) h.0 ∙ ap suc (none_is ws v h.1)

less_not : (r : Ordering) → r ≡ Less → is_eq (ordering_reverse r) ≡ false
less_not r e = ap (λ (o : Ordering). is_eq (ordering_reverse o)) e

above : (w v : List ℕ) → text_cmp w v ≡ Less → is_eq (text_cmp v w) ≡ false
above w v e = ap is_eq (text_total.antisymm v w) ∙ less_not (text_cmp w v) e

below_member : (w v : List ℕ) (ws : List (List ℕ)) (i : ℕ) → AllByRecursion (λ y. text_cmp w y ≡ Less) ws → slice_get ws i ≡ Some v → text_cmp w v ≡ Less
below_member w v [] i low e = absurd cc
below_member w v (x ∷ xs) zero low e = ap (text_cmp w) (sym (same_Some x v e)) ∙ low.0
below_member w v (x ∷ xs) (suc i) low e = below_member w v xs i low.1 e

-- the number of a member of a set is its place
pub place_is : (vs : List (List ℕ)) (v : List ℕ) (i : ℕ) → IsStrictlySortedBy text_cmp vs → slice_get vs i ≡ Some v → number_of vs v ≡ i
place_is [] v i sorted e = absurd cc
place_is (w ∷ ws) v zero sorted e = ap (λ b. cond b 0 (suc (number_of ws v))) (ap (λ (x : List ℕ). is_eq (text_cmp v x)) (same_Some w v e) ∙ ap is_eq (tied_itself text_total v))
place_is (w ∷ ws) v (suc i) sorted e =
    ap (λ b. cond b 0 (suc (number_of ws v))) (above w v (below_member w v ws i (sorted_head text_cmp w ws sorted) e))
    ∙ ap suc (place_is ws v i (sorted_tail text_cmp w ws sorted) e)

pub place_number : (vs : List (List ℕ)) (v : List ℕ) (i : ℕ) → IsStrictlySortedBy text_cmp vs → slice_get vs i ≡ Some v → i ≡ number_of vs v
place_number vs v i sorted e = sym (place_is vs v i sorted e)

pub none_number : (vs : List (List ℕ)) (v : List ℕ) (n : ℕ) → has text_cmp vs v ≡ false → n ≡ length vs → n ≡ number_of vs v
none_number vs v n e is = is ∙ sym (none_is vs v e)
