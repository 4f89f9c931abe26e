-- A set in its members below a value and above it, and what its changes leave of both.
use Rattle.std.specs.Prelude.{not, ◌||◌, ◌≢◌, ◌↔◌, filter, slice_get, IsTrue}
use Rattle.std.proofs.Common.{◌≡◌, ◌⊎◌, inl, inr, ℕ, zero, suc, ◌+◌, ◌<◌, ◌≤◌, Bool, true, false, cond, Some, List, [], ◌∷◌, ◌++◌, length, get_or, take, drop, refl, sym, ap, ◌∙◌, subst, append_assoc, arith}
use Rattle.std.specs.List.{AllByRecursion}
use Rattle.std.specs.List.Sorted.{IsStrictlySortedBy}
use Rattle.std.specs.declared.cmp.Ordering.{Ordering}
use Rattle.std.specs.declared.cmp.Ordering.TheVariants.{Less, Equal, Greater}
use Rattle.std.specs.Ordering.{eq_by_cmp, is_lt, ordering_reverse}
use Rattle.std.specs.Cmp.{IsTotalOrder, alike_right, tied_itself}
use Rattle.std.proofs.lemmas.Bool.{false≢true}
use Rattle.std.proofs.lemmas.List.{append-nil, take-append-drop}
use Rattle.std.proofs.lemmas.List.Elements.{filter-append}
use Rattle.std.proofs.lemmas.List.Folds.{list_any-append}
use Rattle.std.proofs.lemmas.List.Kept.{IsStrictlySortedBy-filter}
use Rattle.std.proofs.lemmas.Map.Keys.{sorted_tail, sorted_head, Less-from_sorted}
use Rattle.std.proofs.Math.Nat.{eq-or-lt_of_le}
use Rattle.sets.specs.Sets.{placed, with, set_of, has, union, without}
use Rattle.sets.proofs.SetLaws.{or_swap, sorted-cons, sorted-empty, sorted-set_of, has-set_of, lacks_below, same_set, set_of-set}
use Rattle.sets.proofs.Every.{all_front, all_joined, all_kept, all_set_of, all_weaker}
use Rattle.quad_sets.specs.Runs.{AreLessTo, IsParted, IsFirstChange}
use Rattle.quad_sets.proofs.Lacking.{without_none}

drop_nil : {A : Type 0} (n : ℕ) → drop {A = A} n [] ≡ []
drop_nil zero = refl
drop_nil (suc n) = refl

nil_not_cons : {A : Type 0} (x : A) (xs : List A) → [] ≡ x ∷ xs → ⊥
nil_not_cons x xs e = absurd cc

pub first_same : {A : Type 0} (x y : A) (xs ys : List A) → x ∷ xs ≡ y ∷ ys → x ≡ y
first_same x y xs ys e = cc

pub all_taken : {A : Type 0} (P : A → Type 0) (n : ℕ) (xs : List A) → ((k : ℕ) (d : A) → k < n → P (get_or xs k d)) → n ≤ length xs → AllByRecursion P (take n xs)
all_taken P zero xs each within = tt
all_taken P (suc n) [] each within = absurd (omega (arith, within))
all_taken P (suc n) (x ∷ xs) each within = (each 0 x (omega arith), all_taken P n xs (λ k d h. each (suc k) d (omega (arith, h))) (omega (arith, within)))

module _ {A : Type 0} (R : A → A → Ordering) where
  pub sorted_behind : (xs ys : List A) → IsStrictlySortedBy R (xs ++ ys) → IsStrictlySortedBy R ys
  sorted_behind [] ys s = s
  sorted_behind (x ∷ xs) ys s = sorted_behind xs ys (sorted_tail R x (xs ++ ys) s)

  pub sorted_front : (xs ys : List A) → IsStrictlySortedBy R (xs ++ ys) → IsStrictlySortedBy R xs
  sorted_front [] ys s = sorted-empty R
  sorted_front (x ∷ xs) ys s = sorted-cons R x xs (all_front (λ y. R x y ≡ Less) xs ys (sorted_head R x (xs ++ ys) s)) (sorted_front xs ys (sorted_tail R x (xs ++ ys) s))

  pub sorted_above : (set : List A) (v : A) (below above : List A) → IsParted R set v below above → IsStrictlySortedBy R set → IsStrictlySortedBy R above
  sorted_above set v below above is s = sorted_behind is.middle above (sorted_behind below (is.middle ++ above) (subst (IsStrictlySortedBy R) is.cut s))

  pub sorted_later : (comes : Bool) (gone more later_gone later_more : List A) (v : A) → IsFirstChange R gone more v comes later_gone later_more → IsStrictlySortedBy R gone → IsStrictlySortedBy R more
      → IsStrictlySortedBy R later_gone × IsStrictlySortedBy R later_more
  sorted_later false gone more later_gone later_more v first s t = (sorted_tail R v later_gone (subst (IsStrictlySortedBy R) first.0 s), subst (IsStrictlySortedBy R) first.1 t)
  sorted_later true gone more later_gone later_more v first s t = (subst (IsStrictlySortedBy R) first.0 s, sorted_tail R v later_more (subst (IsStrictlySortedBy R) first.1 t))

  -- the least member comes first
  least_first : (x : A) (ys : List A) → AllByRecursion (λ y. R x y ≡ Less) ys → with R x ys ≡ x ∷ ys
  least_first x [] low = refl
  least_first x (y ∷ ys) low = ap (λ r. placed r x y ys (with R x ys)) low.0

module _ {A : Type 0} {R : A → A → Ordering} (o : IsTotalOrder R) where
  below_all : (x y : A) (ys : List A) → R x y ≡ Less → AllByRecursion (λ z. R y z ≡ Less) ys → AllByRecursion (λ z. R x z ≡ Less) ys
  below_all x y ys e low = all_weaker (λ z. R y z ≡ Less) (λ z. R x z ≡ Less) (λ z h. o.trans x y z e h) ys low

  -- what is below the value is below all others
  abbrev Covers : A → List A → Type 0
  Covers v others = (x : A) → R x v ≡ Less → AllByRecursion (λ y. R x y ≡ Less) others

  below_least : (x y v : A) (r : Ordering) → R y v ≡ r → R x v ≡ Less → (R y v ≢ Less) → R x y ≡ Less
  below_least x y v Less e less least = absurd (least e)
  below_least x y v Equal e less least = alike_right o y v x e ∙ less
  below_least x y v Greater e less least = o.trans x v y less (o.antisymm v y ∙ ap ordering_reverse e)

  covers_above : (v : A) (others : List A) → AllByRecursion (λ y. R v y ≡ Less) others → Covers v others
  covers_above v others greater x e = below_all x v others e greater

  pub covers_least : (v : A) (others : List A) → AllByRecursion (λ y. R y v ≢ Less) others → Covers v others
  covers_least v others least x e = all_weaker (λ y. R y v ≢ Less) (λ y. R x y ≡ Less) (λ y h. below_least x y v (R y v) refl e h) others least

  -- ---- without one more

  kept_below : (v : A) (gone below : List A) → Covers v gone → AllByRecursion (λ x. R x v ≡ Less) below → without R below gone ≡ below
  kept_below v gone [] covers less = refl
  kept_below v gone (x ∷ xs) covers less = rw (lacks_below o x gone (covers x less.0)) (ap (λ t. x ∷ t) (kept_below v gone xs covers less.1))

  none_left : (v : A) (vs middle : List A) → AllByRecursion (λ x. R x v ≡ Equal) middle → without R middle (v ∷ vs) ≡ []
  none_left v vs [] same = refl
  none_left v vs (x ∷ xs) same = rw same.0 (none_left v vs xs same.1)

  kept_above : (v : A) (vs above : List A) → AllByRecursion (λ x. R v x ≡ Less) above → without R above (v ∷ vs) ≡ without R above vs
  kept_above v vs [] greater = refl
  kept_above v vs (x ∷ xs) greater =
      rw (o.antisymm x v ∙ ap ordering_reverse greater.0)
      (ap (λ t. cond (not (has R vs x)) (x ∷ t) t) (kept_above v vs xs greater.1))

  without_parted : (set : List A) (v : A) (vs below above : List A) → IsStrictlySortedBy R (v ∷ vs) → IsParted R set v below above → without R set (v ∷ vs) ≡ below ++ without R above vs
  without_parted set v vs below above s is =
      let p : A → Bool = λ x. not (has R (v ∷ vs) x) in
      ap (filter p) is.cut ∙ filter-append p below (is.middle ++ above)
      ∙ ap (λ t. t ++ filter p (is.middle ++ above)) (kept_below v (v ∷ vs) below (λ x e. (e, below_all x v vs e (sorted_head R v vs s))) is.less)
      ∙ ap (λ t. below ++ t) (filter-append p is.middle above ∙ ap (λ t. t ++ filter p above) (none_left v vs is.middle is.same) ∙ kept_above v vs above is.greater)

  -- ---- the parts

  is_greater : (v x : A) (r : Ordering) → R x v ≡ r → (r ≡ Less → ⊥) → (r ≡ Equal → ⊥) → R v x ≡ Less
  is_greater v x Less e less same = absurd (less refl)
  is_greater v x Equal e less same = absurd (same refl)
  is_greater v x Greater e less same = o.antisymm v x ∙ ap ordering_reverse e

  pub dropped_is : (count : ℕ) (set : List A) (x : A) (xs : List A) → drop count set ≡ x ∷ xs → (count < length set) × ((d : A) → get_or set count d ≡ x)
  dropped_is count [] x xs e = absurd (nil_not_cons x xs (sym (drop_nil count) ∙ e))
  dropped_is zero (y ∷ ys) x xs e = (let h : length (y ∷ ys) ≡ length ys + 1 = omega arith in omega arith, λ d. first_same y x ys xs e)
  dropped_is (suc count) (y ∷ ys) x xs e = let r = dropped_is count ys x xs e in (let h : length (y ∷ ys) ≡ length ys + 1 = omega arith in let k : count < length ys = r.0 in omega arith, λ d. r.1 d)

  all_above : (v x : A) (xs : List A) → R x v ≡ Equal → AllByRecursion (λ y. R x y ≡ Less) xs → AllByRecursion (λ y. R v y ≡ Less) xs
  all_above v x xs e high = all_weaker (λ y. R x y ≡ Less) (λ y. R v y ≡ Less) (λ y h. sym (o.congr x v y e) ∙ h) xs high

  pub parted_at : (set : List A) (v x : A) (count : ℕ) (front back above : List A) → AreLessTo R v set count → front ≡ take count set → back ≡ drop count set → back ≡ x ∷ above → IsStrictlySortedBy R set → R x v ≡ Equal
      → IsParted R set v front above
  parted_at set v x count front back above are f b cut s same =
      let whole : set ≡ front ++ (x ∷ above) = sym (take-append-drop count set) ∙ (λ i. sym f i ++ sym b i) ∙ ap (λ t. front ++ t) cut in
      record {
        middle = x ∷ [];
        cut = whole;
        less = subst (AllByRecursion (λ x. R x v ≡ Less)) (sym f) (all_taken (λ x. R x v ≡ Less) count set are.less are.within);
        same = (same, tt);
        greater = all_above v x above same (sorted_head R x above (sorted_behind R front (x ∷ above) (subst (IsStrictlySortedBy R) whole s)));
      }

  greater_behind : (v : A) (back : List A) → IsStrictlySortedBy R back → ((x : A) (xs : List A) → back ≡ x ∷ xs → R v x ≡ Less) → AllByRecursion (λ y. R v y ≡ Less) back
  greater_behind v [] s first = tt
  greater_behind v (x ∷ xs) s first = (first x xs refl, below_all v x xs (first x xs refl) (sorted_head R x xs s))

  pub parted_between : (set : List A) (v : A) (count : ℕ) (front back : List A) → AreLessTo R v set count → front ≡ take count set → back ≡ drop count set → IsStrictlySortedBy R set
      → ((x : A) (xs : List A) → back ≡ x ∷ xs → R x v ≡ Equal → ⊥) → IsParted R set v front back
  parted_between set v count front back are f b s others =
      let whole : set ≡ front ++ back = sym (take-append-drop count set) ∙ (λ i. sym f i ++ sym b i) in
      record {
        middle = [];
        cut = whole;
        less = subst (AllByRecursion (λ x. R x v ≡ Less)) (sym f) (all_taken (λ x. R x v ≡ Less) count set are.less are.within);
        same = tt;
        greater = greater_behind v back (sorted_behind R front back (subst (IsStrictlySortedBy R) whole s))
            (λ x xs e. is_greater v x (R x v) refl (λ h. let r = dropped_is count set x xs (sym b ∙ e) in are.next x r.0 (ap (λ y. R y v) (r.1 x) ∙ h)) (others x xs e));
      }

module _ {A : Type 0} {R : A → A → Ordering} (o : IsTotalOrder R) where
  -- ---- all members below a value

  less_by_last : (v : A) (set : List A) (last k : ℕ) (d : A) → IsStrictlySortedBy R set → last + 1 ≡ length set → R (get_or set last d) v ≡ Less → k < length set → (k ≡ last) ⊎ (k < last) → R (get_or set k d) v ≡ Less
  less_by_last v set last k d s e less h (inl same) = ap (λ i. R (get_or set i d) v) same ∙ less
  less_by_last v set last k d s e less h (inr before) = o.trans (get_or set k d) (get_or set last d) v (Less-from_sorted R set k last d s before (omega (arith, e))) less

  pub all_less : (v : A) (set : List A) (last : ℕ) → IsStrictlySortedBy R set → last + 1 ≡ length set → ((d : A) → R (get_or set last d) v ≡ Less) → AreLessTo R v set (length set)
  all_less v set last s e less = record {
    within = omega arith;
    less = λ k d h. less_by_last v set last k d s e (less d) h (eq-or-lt_of_le (omega (arith, e, h)));
    next = λ d h n. absurd (omega (arith, h));
  }

  -- ---- the first change

  first_item : (x : A) (xs : List A) (y : A) → Some y ≡ slice_get (x ∷ xs) 0 → x ≡ y
  first_item x xs y e = cc

  pub is_less : (r : Ordering) → is_lt r ≡ true → r ≡ Less
  is_less Less e = refl
  is_less Equal e = absurd cc
  is_less Greater e = absurd cc

  pub below_first : (b : Bool) (v x : A) (set : List A) → Some x ≡ slice_get set 0 → IsStrictlySortedBy R set → b ≡ is_lt (R v x) → IsTrue b ↔ AllByRecursion (λ y. R v y ≡ Less) set
  below_first b v x [] e s test = absurd cc
  below_first b v x (y ∷ ys) e s test =
      let same : y ≡ x = first_item y ys x e in
      (λ t. let h : R v y ≡ Less = ap (R v) same ∙ is_less (R v x) (sym test ∙ t) in (h, below_all o v y ys h (sorted_head R y ys s)), λ each. test ∙ ap is_lt (ap (R v) (sym same) ∙ each.0))

  pub none_below : (x : A) (gone : List A) → length gone ≡ 0 → AllByRecursion (λ y. R y x ≢ Less) gone
  none_below x [] e = tt
  none_below x (g ∷ gs) e = absurd (let h : length (g ∷ gs) ≡ length gs + 1 = omega arith in omega arith)

  -- where the first that goes is not below all that come, none that goes is below the first that
  -- comes
  none_lower : (g x : A) (gs xs : List A) → IsStrictlySortedBy R (g ∷ gs) → IsStrictlySortedBy R (x ∷ xs) → (AllByRecursion (λ y. R g y ≡ Less) (x ∷ xs) → ⊥) → AllByRecursion (λ y. R y x ≢ Less) (g ∷ gs)
  none_lower g x gs xs s t others =
      let first : R g x ≢ Less = λ h. others (h, below_all o g x xs h (sorted_head R x xs t)) in
      (first, all_weaker (λ y. R g y ≡ Less) (λ y. R y x ≢ Less) (λ y h k. first (o.trans g y x h k)) gs (sorted_head R g gs s))

  pub none_goes_first : (g x : A) (gone more gs xs : List A) → gone ≡ g ∷ gs → more ≡ x ∷ xs → IsStrictlySortedBy R gone → IsStrictlySortedBy R more → IsTrue false ↔ AllByRecursion (λ y. R g y ≡ Less) more
      → AllByRecursion (λ y. R y x ≢ Less) gone
  none_goes_first g x gone more gs xs e f s t test =
      subst (AllByRecursion (λ y. R y x ≢ Less)) (sym e)
      (none_lower g x gs xs (subst (IsStrictlySortedBy R) e s) (subst (IsStrictlySortedBy R) f t) (λ each. false≢true (test.1 (subst (AllByRecursion (λ y. R g y ≡ Less)) (sym f) each))))

  -- ---- with one more

  least_each : (v : A) (others below : List A) → Covers o v others → AllByRecursion (λ x. R x v ≡ Less) below → IsStrictlySortedBy R below → set_of R (below ++ others) ≡ below ++ set_of R others
  least_each v others [] covers less s = refl
  least_each v others (x ∷ xs) covers less s =
      ap (with R x) (least_each v others xs covers less.1 (sorted_tail R x xs s))
      ∙ least_first R x (xs ++ set_of R others)
      (all_joined (λ y. R x y ≡ Less) xs (set_of R others) (sorted_head R x xs s) (all_set_of (λ y. R x y ≡ Less) R others (covers x less.0)))

  covers_each : (v : A) (vs middle above : List A) → AllByRecursion (λ y. R y v ≡ Equal) middle → AllByRecursion (λ y. R v y ≡ Less) above → AllByRecursion (λ y. R v y ≡ Less) vs → Covers o v ((middle ++ above) ++ v ∷ vs)
  covers_each v vs middle above same greater high x e =
      all_joined (λ y. R x y ≡ Less) (middle ++ above) (v ∷ vs)
      (all_joined (λ y. R x y ≡ Less) middle above (all_weaker (λ y. R y v ≡ Equal) (λ y. R x y ≡ Less) (λ y h. alike_right o y v x h ∙ e) middle same) (below_all o x v above e greater))
      (e, below_all o x v vs e high)

  module _ (exact : (x y : A) → R x y ≡ Equal → x ≡ y) where
    value_first : (v : A) (vs above : List A) → AllByRecursion (λ y. R v y ≡ Less) above → AllByRecursion (λ y. R v y ≡ Less) vs → set_of R (above ++ v ∷ vs) ≡ v ∷ set_of R (above ++ vs)
    value_first v vs above greater high =
        same_set o exact (set_of R (above ++ v ∷ vs)) (v ∷ set_of R (above ++ vs)) (sorted-set_of o (above ++ v ∷ vs))
        (sorted-cons R v (set_of R (above ++ vs)) (all_set_of (λ y. R v y ≡ Less) R (above ++ vs) (all_joined (λ y. R v y ≡ Less) above vs greater high)) (sorted-set_of o (above ++ vs)))
        (λ q. has-set_of o q (above ++ v ∷ vs) ∙ list_any-append (eq_by_cmp R q) above (v ∷ vs) ∙ or_swap (has R above q) (eq_by_cmp R q v) (has R vs q)
        ∙ ap (λ b. eq_by_cmp R q v || b) (sym (has-set_of o q (above ++ vs) ∙ list_any-append (eq_by_cmp R q) above vs)))

    -- of equal members there is one
    one_of : (v : A) (middle others set : List A) → AllByRecursion (λ y. R y v ≡ Equal) middle → set_of R others ≡ v ∷ set → set_of R (middle ++ others) ≡ v ∷ set
    one_of v [] others set same e = e
    one_of v (y ∷ middle) others set same e =
        ap (λ t. with R t (set_of R (middle ++ others))) (exact y v same.0) ∙ ap (with R v) (one_of v middle others set same.1 e) ∙ ap (λ r. placed r v v set (with R v set)) (tied_itself o v)

    union_parted : (set : List A) (v : A) (vs below above : List A) → IsStrictlySortedBy R set → IsStrictlySortedBy R (v ∷ vs) → IsParted R set v below above → union R set (v ∷ vs) ≡ below ++ v ∷ union R above vs
    union_parted set v vs below above sorted s is =
        let high = sorted_head R v vs s in
        ap (λ t. set_of R (t ++ v ∷ vs)) is.cut ∙ ap (set_of R) (append_assoc below (is.middle ++ above) (v ∷ vs))
        ∙ least_each v ((is.middle ++ above) ++ v ∷ vs) below (covers_each v vs is.middle above is.same is.greater high) is.less (sorted_front R below (is.middle ++ above) (subst (IsStrictlySortedBy R) is.cut sorted))
        ∙ ap (λ t. below ++ t) (ap (set_of R) (append_assoc is.middle above (v ∷ vs)) ∙ one_of v is.middle (above ++ v ∷ vs) (union R above vs) is.same (value_first v vs above is.greater high))

    -- ---- without some, and with more

    left_parted : (set : List A) (v : A) (gone below above : List A) → Covers o v gone → IsParted R set v below above → IsParted R (without R set gone) v below (without R above gone)
    left_parted set v gone below above covers is =
        let p : A → Bool = λ x. not (has R gone x) in
        record {
          middle = filter p is.middle;
          cut = ap (filter p) is.cut ∙ filter-append p below (is.middle ++ above) ∙ ap (λ t. t ++ filter p (is.middle ++ above)) (kept_below o v gone below covers is.less) ∙ ap (λ t. below ++ t) (filter-append p is.middle above);
          less = is.less;
          same = all_kept (λ x. R x v ≡ Equal) p is.middle is.same;
          greater = all_kept (λ x. R v x ≡ Less) p above is.greater;
        }

    change_comes : (set gone below above : List A) (v : A) (later : List A) → IsStrictlySortedBy R set → IsStrictlySortedBy R (v ∷ later) → IsParted R set v below above → AllByRecursion (λ y. R y v ≢ Less) gone
        → union R (without R set gone) (v ∷ later) ≡ below ++ v ∷ union R (without R above gone) later
    change_comes set gone below above v later s t is least =
        union_parted (without R set gone) v later below (without R above gone) (IsStrictlySortedBy-filter R (λ x. not (has R gone x)) set s) t (left_parted set v gone below above (covers_least o v gone least) is)

    change_goes : (set more below above : List A) (v : A) (later : List A) → IsStrictlySortedBy R set → IsStrictlySortedBy R (v ∷ later) → IsParted R set v below above → AllByRecursion (λ y. R v y ≡ Less) more
        → union R (without R set (v ∷ later)) more ≡ below ++ union R (without R above later) more
    change_goes set more below above v later s t is greater =
        let left : List A = without R above later in
        ap (λ t. union R t more) (without_parted o set v later below above t is)
        ∙ ap (set_of R) (append_assoc below left more)
        ∙ least_each v (left ++ more) below (covers_above o v (left ++ more) (all_joined (λ y. R v y ≡ Less) left more (all_kept (λ y. R v y ≡ Less) (λ x. not (has R later x)) above is.greater) greater)) is.less
        (sorted_front R below (is.middle ++ above) (subst (IsStrictlySortedBy R) is.cut s))

    pub change_next : (comes : Bool) (start list set gone more later_gone later_more below above laid now : List A) (v : A) → IsStrictlySortedBy R set → IsStrictlySortedBy R gone → IsStrictlySortedBy R more → IsParted R set v below above
        → IsFirstChange R gone more v comes later_gone later_more → laid ≡ list ++ below → now ≡ cond comes (laid ++ v ∷ []) laid → list ++ union R (without R set gone) more ≡ start
        → now ++ union R (without R above later_gone) later_more ≡ start
    change_next false start list set gone more later_gone later_more below above laid now v s t u is first h k done =
        let rest : List A = union R (without R above later_gone) more in
        ap (λ xs. now ++ union R (without R above later_gone) xs) (sym first.1) ∙ ap (λ xs. xs ++ rest) (k ∙ h) ∙ append_assoc list below rest
        ∙ ap (λ xs. list ++ xs) (sym (ap (λ xs. union R (without R set xs) more) first.0 ∙ change_goes set more below above v later_gone s (subst (IsStrictlySortedBy R) first.0 t) is first.2)) ∙ done
    change_next true start list set gone more later_gone later_more below above laid now v s t u is first h k done =
        let rest : List A = union R (without R above gone) later_more in
        ap (λ xs. now ++ union R (without R above xs) later_more) (sym first.0) ∙ ap (λ xs. xs ++ rest) (k ∙ ap (λ xs. xs ++ v ∷ []) h) ∙ append_assoc (list ++ below) (v ∷ []) rest ∙ append_assoc list below (v ∷ rest)
        ∙ ap (λ xs. list ++ xs) (sym (ap (union R (without R set gone)) first.1 ∙ change_comes set gone below above v later_more s (subst (IsStrictlySortedBy R) first.1 u) is first.2)) ∙ done

    -- where no members or no changes are left, they are one behind the other
    laid_last : (rest gone more : List A) → IsStrictlySortedBy R rest → IsStrictlySortedBy R more → (rest ≡ []) ⊎ ((gone ≡ []) × (more ≡ [])) → union R (without R rest gone) more ≡ rest ++ more
    laid_last rest gone more s t (inl none) = ap (λ xs. union R (without R xs gone) more) none ∙ set_of-set o exact more t ∙ ap (λ xs. xs ++ more) (sym none)
    laid_last rest gone more s t (inr none) =
        ap (λ xs. union R (without R rest xs) more) none.0 ∙ ap (λ xs. union R xs more) (without_none R rest) ∙ ap (union R rest) none.1 ∙ ap (set_of R) (append-nil rest) ∙ set_of-set o exact rest s
        ∙ sym (append-nil rest) ∙ ap (λ xs. rest ++ xs) (sym none.1)

    pub change_last : (start list rest gone more laid now : List A) → IsStrictlySortedBy R rest → IsStrictlySortedBy R more → (rest ≡ []) ⊎ ((gone ≡ []) × (more ≡ [])) → laid ≡ list ++ rest → now ≡ laid ++ more
        → list ++ union R (without R rest gone) more ≡ start → now ≡ start
    change_last start list rest gone more laid now s t none h k done =
        k ∙ ap (λ xs. xs ++ more) h ∙ append_assoc list rest more ∙ ap (λ xs. list ++ xs) (sym (laid_last rest gone more s t none)) ∙ done
