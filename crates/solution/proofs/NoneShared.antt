-- Mappings of lists that have no variable in common share none.
use Rattle.std.specs.Prelude.{ℕ, Bool, not, is_some, cond, ◌<◌, ◌≤◌, length}
use Rattle.std.specs.List.{AllByRecursion, list_all}
use Rattle.std.proofs.lemmas.Bool.{false≢true}
use Rattle.std.proofs.Common.{◌≡◌, true, false, ◌&&◌, ◌||◌, zero, suc, List, [], ◌∷◌, ◌++◌, Option, Some, None, refl, sym, ◌∙◌, subst, arith}
use Rattle.sets.proofs.SetLaws.{or_and_parts}
use Rattle.datasets.specs.declared.id.Id.{Id}
use Rattle.datasets.specs.Id.{id_order}
use Rattle.meaning.specs.Mapping.{Mapping, term_for, compatible, are_bound, shares}
use Rattle.meaning.specs.Operators.{minus}
use Rattle.solution.specs.Sharing.{is_bound_among, ShareNothing}

-- ---- how wide mappings are

abbrev pub Narrow : ℕ → List (Mapping Id) → Type 0
Narrow n ms = AllByRecursion (λ m. length m ≤ n) ms

-- one more mapping, and a bound that didn't fall
pub narrow_more : (ms : List (Mapping Id)) (m : Mapping Id) (before now : ℕ) → before ≤ now → length m ≤ now → Narrow before ms → Narrow now (ms ++ m ∷ [])
narrow_more [] m before now le own h = (own, tt)
narrow_more (x ∷ ms) m before now le own h =
    let first : length x ≤ before = h.0 in
    let now_first : length x ≤ now = omega arith in
    (now_first, narrow_more ms m before now le own h.1)

-- ---- Bool

other_false : (x y z : Bool) → (x && (y || z)) ≡ false → ((x && y) ≡ false) × ((x && z) ≡ false)
other_false false y z h = (refl, refl)
other_false true true z h = absurd (false≢true (sym h))
other_false true false z h = (refl, h)

-- ---- two mappings

bound_of : (x y : Option Id) → (is_some x && is_some y) ≡ false → are_bound x y ≡ false
bound_of (Some x) (Some y) h = h
bound_of (Some x) None h = refl
bound_of None y h = refl

shares_none : (a b : Mapping Id) → ((v : ℕ) → v < length a → (is_some (term_for a v) && is_some (term_for b v)) ≡ false) → shares a b ≡ false
shares_none [] b h = refl
shares_none (x ∷ a) [] h = refl
shares_none (x ∷ a) (y ∷ b) h =
    λ i. bound_of x y (h zero (omega arith)) i || shares_none a b (λ v lt. h (suc v) (omega arith)) i

-- ---- lists of them

shares_none_of : (a : Mapping Id) (right : List (Mapping Id)) → ((v : ℕ) → v < length a → (is_some (term_for a v) && is_bound_among right v) ≡ false)
    → AllByRecursion (λ b. shares a b ≡ false) right
shares_none_of a [] h = tt
shares_none_of a (b ∷ right) h = (
  shares_none a b (λ v lt. (other_false (is_some (term_for a v)) (is_some (term_for b v)) (is_bound_among right v) (h v lt)).0),
  shares_none_of a right (λ v lt. (other_false (is_some (term_for a v)) (is_some (term_for b v)) (is_bound_among right v) (h v lt)).1),
)

pub share_nothing : (left right : List (Mapping Id)) (n : ℕ) → Narrow n left → ((v : ℕ) → v < n → (is_bound_among left v && is_bound_among right v) ≡ false)
    → ShareNothing left right
share_nothing [] right n narrow h = tt
share_nothing (a ∷ left) right n narrow h =
    let first : length a ≤ n = narrow.0 in
    let parted = λ (v : ℕ) (lt : v < n). or_and_parts (is_some (term_for a v)) (is_bound_among left v) (is_bound_among right v) (h v lt) in (
      shares_none_of a right (λ v lt. (parted v (omega arith)).0),
      share_nothing left right n narrow.1 (λ v lt. (parted v lt).1),
    )

-- ---- so that all on the left stay

all_apart : (a : Mapping Id) (right : List (Mapping Id)) → AllByRecursion (λ b. shares a b ≡ false) right
    → list_all (λ b. not (compatible id_order a b) || not (shares a b)) right ≡ true
all_apart a [] h = refl
all_apart a (b ∷ right) h =
    (λ i. (not (compatible id_order a b) || not (h.0 i)) && all_apart a right h.1 i) ∙ or_true (not (compatible id_order a b))
  where
    or_true : (x : Bool) → ((x || true) && true) ≡ true
    or_true true = refl
    or_true false = refl

pub minus_nothing : (left right : List (Mapping Id)) → ShareNothing left right → minus id_order left right ≡ left
minus_nothing [] right h = refl
minus_nothing (a ∷ left) right h =
    λ i. cond (all_apart a right h.0 i) (a ∷ minus_nothing left right h.1 i) (minus_nothing left right h.1 i)

-- the same, of equal lists
pub minus_all : (xs left ys right : List (Mapping Id)) → xs ≡ left → ys ≡ right → ShareNothing xs ys → left ≡ minus id_order left right
minus_all xs left ys right e f h =
    sym (minus_nothing left right (subst (λ zs. ShareNothing left zs) f (subst (λ zs. ShareNothing zs ys) e h)))
