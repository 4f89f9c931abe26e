-- Binary search in sorted entries finds what a filter keeps.
use Rattle.std.specs.Prelude.{Bool, filter, slice_range}
use Rattle.std.proofs.Common.{◌≡◌, ◌<◌, ◌≤◌, ◌+◌, ℕ, true, false, List, [], ◌∷◌, inl, inr, refl, sym, ap, ◌∙◌, length, get_or, arith}
use Rattle.std.proofs.lemmas.Bool.{false≢true, cases_lt, false_from_ne_true}
use Rattle.std.proofs.lemmas.List.{get_or_default}
use Rattle.std.proofs.lemmas.List.Sorted.{searchable_from_sorted, IsPartitionedBy-ltb}
use Rattle.std.specs.List.{AllWithin}
use Rattle.std.specs.List.Sorted.{IsSortedByKey, IsSortedBy, IsPartitionedBy}
use Rattle.std.specs.declared.cmp.Ordering.{Ordering}
use Rattle.std.specs.declared.cmp.Ordering.TheVariants.{Less, Equal, Greater}
use Rattle.std.specs.Ordering.{ordering_then, is_eq, is_lt, ordering_index}
use Rattle.std.specs.Cmp.{IsTotalOrder, then_total, on_total}
use Rattle.std.specs.Cmp.Lexicographic.{options_total}
use Rattle.datasets.specs.Id.{id_total}
use Rattle.std.specs.Cmp.Derive.{point_total}
use Rattle.sets.proofs.Filters.{kept_middle}
use lib.Dec.{ltb}
use Rattle.quad_lists.specs.declared.key.Key.{Key}
use Rattle.quad_lists.specs.declared.key.Depth.{Depth}
use Rattle.quad_lists.specs.declared.key.Depth.TheVariants.{Zero, One, Two, Three, Four}
use Rattle.quad_lists.specs.Keys.{place_order, key_order, order_at, is_before}

place_total : IsTotalOrder place_order
place_total = options_total id_total

first_total : IsTotalOrder (λ (a b : Key). place_order a.first b.first)
first_total = on_total (λ (k : Key). k.first) place_total

second_total : IsTotalOrder (λ (a b : Key). place_order a.second b.second)
second_total = on_total (λ (k : Key). k.second) place_total

third_total : IsTotalOrder (λ (a b : Key). place_order a.third b.third)
third_total = on_total (λ (k : Key). k.third) place_total

fourth_total : IsTotalOrder (λ (a b : Key). place_order a.fourth b.fourth)
fourth_total = on_total (λ (k : Key). k.fourth) place_total

pub at_total : (d : Depth) → IsTotalOrder (order_at d)
at_total Zero = point_total
at_total One = first_total
at_total Two = then_total first_total second_total
at_total Three = then_total first_total (then_total second_total third_total)
at_total Four = then_total first_total (then_total second_total (then_total third_total fourth_total))

pub key_total : IsTotalOrder key_order
key_total = at_total Four

-- less by the first places is less
less_first : (x y : Ordering) → x ≡ Less → ordering_then x y ≡ Less
less_first x y e = ap (λ r. ordering_then r y) e

less_two : (x y z : Ordering) → ordering_then x y ≡ Less → ordering_then x (ordering_then y z) ≡ Less
less_two Less y z e = refl
less_two Equal y z e = less_first y z e
less_two Greater y z e = absurd (false≢true (ap is_lt e))

less_three : (x y z w : Ordering) → ordering_then x (ordering_then y z) ≡ Less → ordering_then x (ordering_then y (ordering_then z w)) ≡ Less
less_three Less y z w e = refl
less_three Equal y z w e = less_two y z w e
less_three Greater y z w e = absurd (false≢true (ap is_lt e))

pub less_at : (d : Depth) (a b : Key) → order_at d a b ≡ Less → key_order a b ≡ Less
less_at Zero a b e = absurd (false≢true (ap is_lt e))
less_at One a b e = less_first (place_order a.first b.first) _ e
less_at Two a b e = less_two (place_order a.first b.first) (place_order a.second b.second) _ e
less_at Three a b e = less_three (place_order a.first b.first) (place_order a.second b.second) (place_order a.third b.third) (place_order a.fourth b.fourth) e
less_at Four a b e = e

not_less : (r s : Ordering) → (r ≡ Less → s ≡ Less) → is_lt s ≡ false → is_lt r ≡ false
not_less Less s f e = absurd (false≢true (sym e ∙ ap is_lt (f refl)))
not_less Equal s f e = refl
not_less Greater s f e = refl

-- how a test is one on numbers
abbrev limit : Bool → ℕ
limit true = 2
limit false = 1

before_is : (past : Bool) (r : Ordering) → is_before past r ≡ ltb (ordering_index r) (limit past)
before_is true Less = refl
before_is true Equal = refl
before_is true Greater = refl
before_is false Less = refl
before_is false Equal = refl
before_is false Greater = refl

module _ {E : Type 0} (key : E → Key) where
  sorted_at : (d : Depth) (xs : List E) → IsSortedByKey key key_order xs → IsSortedBy (λ a b. is_lt (order_at d (key a) (key b))) xs
  sorted_at d xs s = λ k e low high. not_less _ _ (less_at d _ _) (s k e low high)

  pub before_partitioned : (d : Depth) (past : Bool) (t : Key) (xs : List E) → IsSortedByKey key key_order xs → IsPartitionedBy (λ e. is_before past (order_at d (key e) t)) xs
  before_partitioned d past t xs s =
      let parts = IsPartitionedBy-ltb (λ (e : E). ordering_index (order_at d (key e) t)) xs (limit past) (searchable_from_sorted (at_total d) key xs t (sorted_at d xs s)) in
      λ i j e le lt h. before_is past _ ∙ parts i j e le lt (sym (before_is past _) ∙ h)

-- a step of the search: an entry that passes, or one that doesn't
pub front_more : {E : Type 0} (p : E → Bool) (xs : List E) (m : ℕ) (x : E) → IsPartitionedBy p xs → m < length xs → x ≡ get_or xs m x → p x ≡ true → AllWithin (λ e. p e ≡ true) xs 0 (m + 1)
front_more p xs m x parts lt is h k e low high =
    parts k m e (omega arith) lt (ap p (get_or_default xs m e x lt ∙ sym is) ∙ h)

pub back_more : {E : Type 0} (p : E → Bool) (xs : List E) (m : ℕ) (x : E) → IsPartitionedBy p xs → m < length xs → x ≡ get_or xs m x → p x ≡ false → AllWithin (λ e. p e ≡ false) xs m (length xs)
back_more p xs m x parts lt is h k e low high =
    false_from_ne_true _ (λ t. false≢true (sym h ∙ ap p (is ∙ get_or_default xs m x e lt) ∙ parts m k e low high t))

-- the same of the entry at a place
pub front_at : {E : Type 0} (p : E → Bool) (xs : List E) (m : ℕ) → IsPartitionedBy p xs → m < length xs → ((e : E) → p (get_or xs m e) ≡ true) → AllWithin (λ e. p e ≡ true) xs 0 (m + 1)
front_at p xs m parts lt at k e low high = parts k m e (omega arith) lt (at e)

pub back_at : {E : Type 0} (p : E → Bool) (xs : List E) (m : ℕ) → IsPartitionedBy p xs → ((e : E) → p (get_or xs m e) ≡ false) → AllWithin (λ e. p e ≡ false) xs m (length xs)
back_at p xs m parts at k e low high = false_from_ne_true _ (λ t. false≢true (sym (at e) ∙ parts m k e low high t))

pub past_back : (r : Ordering) → is_before true r ≡ false → is_before false r ≡ false
past_back Less e = absurd (false≢true (sym e))
past_back Equal e = refl
past_back Greater e = refl

-- the places found are in order: an entry at the second and before the first would be both less and
-- greater
less_than_all : (r : Ordering) → is_before false r ≡ true → is_before true r ≡ false → ⊥
less_than_all Less e f = false≢true (sym f)
less_than_all Equal e f = false≢true e
less_than_all Greater e f = false≢true e

pub before_past : (r : Ordering) → is_before false r ≡ true → is_before true r ≡ true
before_past Less e = refl
before_past Equal e = refl
before_past Greater e = e

equal_between : (r : Ordering) → is_before false r ≡ false → is_before true r ≡ true → is_eq r ≡ true
equal_between Less e f = absurd (false≢true (sym e))
equal_between Equal e f = refl
equal_between Greater e f = absurd (false≢true f)

not_equal_before : (r : Ordering) → is_before false r ≡ true → is_eq r ≡ false
not_equal_before Less e = refl
not_equal_before Equal e = absurd (false≢true e)
not_equal_before Greater e = refl

not_equal_past : (r : Ordering) → is_before true r ≡ false → is_eq r ≡ false
not_equal_past Less e = refl
not_equal_past Equal e = absurd (false≢true (sym e))
not_equal_past Greater e = refl

-- what two searches found, the first for the first place that isn't less, the second for the first
-- that is greater
pub record Between {E : Type 0} (answer : E → Ordering) (xs : List E) (low high : ℕ) : Type 0 where
  pub within : high ≤ length xs
  pub low_within : low ≤ length xs
  pub low_front : AllWithin (λ e. is_before false (answer e) ≡ true) xs 0 low
  pub low_back : AllWithin (λ e. is_before false (answer e) ≡ false) xs low (length xs)
  pub high_front : AllWithin (λ e. is_before true (answer e) ≡ true) xs 0 high
  pub high_back : AllWithin (λ e. is_before true (answer e) ≡ false) xs high (length xs)

apart : (x y : ℕ) → (y < x → ⊥) → x ≤ y
apart x y f = elim (cases_lt y x) [ inl h ↦ absurd (f h) | inr h ↦ h ]

pub places_ordered : {E : Type 0} (answer : E → Ordering) (xs : List E) (low high : ℕ) → Between answer xs low high → low ≤ high
places_ordered answer [] low high b = let h : low ≤ 0 = b.low_within in omega arith
places_ordered answer (x ∷ xs) low high b =
    let w : low ≤ length (x ∷ xs) = b.low_within in
    apart low high (λ lt. less_than_all _ (b.low_front high x (omega arith) lt) (b.high_back high x (omega arith) (omega arith)))

pub part_is : {E : Type 0} (answer : E → Ordering) (xs : List E) (low high : ℕ) → Between answer xs low high → slice_range xs low high ≡ filter (λ e. is_eq (answer e)) xs
part_is answer xs low high b =
    kept_middle (λ e. is_eq (answer e)) xs low high (places_ordered answer xs low high b) b.within
    (λ k d l h. not_equal_before _ (b.low_front k d l h))
    (λ k d l h. equal_between _ (b.low_back k d l (let w : high ≤ length xs = b.within in omega arith)) (b.high_front k d (omega arith) h))
    (λ k d l h. not_equal_past _ (b.high_back k d l h))
