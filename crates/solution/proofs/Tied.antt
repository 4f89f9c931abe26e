-- Mappings that have the same terms for variables that they bind.
use Rattle.std.specs.Prelude.{ℕ, Bool, not, is_some, filter, filter_map, cond}
use Rattle.std.specs.List.{list_all, list_any, flat_map, cons_option}
use Rattle.std.specs.Cmp.{Equal-is}
use Rattle.std.specs.Option.{option_cmp}
use Rattle.std.specs.Ordering.{is_eq, ordering_reverse, ordering_then, eq_by_cmp}
use Rattle.std.specs.declared.cmp.Ordering.TheVariants.{Equal}
use Rattle.std.proofs.lemmas.Bool.{false≢true}
use Rattle.std.proofs.Common.{◌≡◌, true, false, ◌&&◌, ◌||◌, zero, suc, List, [], ◌∷◌, Option, Some, None, refl, sym, ap, ◌∙◌, subst}
use Rattle.std.proofs.lemmas.List.Folds.{list_any-append}
use Rattle.datasets.specs.declared.id.Id.{Id}
use Rattle.datasets.specs.Id.{id_order, id_total}
use Rattle.meaning.specs.Mapping.{Mapping, mapping_cmp, term_for, agree, compatible, merge, shares, joined}
use Rattle.meaning.specs.Operators.{join, minus, diff}
use Rattle.sets.specs.Sets.{set_of, has}
use Rattle.sets.proofs.SetLaws.{has-set_of, sorted-set_of, same_set}
use Rattle.sets.proofs.Filters.{any-filter}
use Rattle.solution.specs.MappingOrder.{mapping_total, mapping_exact}
use Rattle.solution.specs.Lookups.{order_at, tied, binds, near_bound, near, HasAll}

-- ---- Bool

and_first : (a b : Bool) → (a && b) ≡ true → a ≡ true
and_first true b e = refl
and_first false b e = absurd (false≢true e)

and_second : (a b : Bool) → (a && b) ≡ true → b ≡ true
and_second true b e = e
and_second false b e = absurd (false≢true e)

-- ---- compatible mappings tie at what both bind

agree_at : (a b : Mapping Id) (v : ℕ) → compatible id_order a b ≡ true → agree id_order (term_for a v) (term_for b v) ≡ true
agree_at [] b v h = refl
agree_at (x ∷ a) [] v h = agree_none (term_for (x ∷ a) v)
  where
    agree_none : (x : Option Id) → agree id_order x None ≡ true
    agree_none (Some x) = refl
    agree_none None = refl
agree_at (x ∷ a) (y ∷ b) zero h = and_first _ _ h
agree_at (x ∷ a) (y ∷ b) (suc v) h = agree_at a b v (and_second _ _ h)

tie_at : (x y : Option Id) → is_some x ≡ true → is_some y ≡ true → agree id_order x y ≡ true → option_cmp id_order y x ≡ Equal
tie_at (Some x) (Some y) e f h =
    id_total.antisymm y x ∙ ap ordering_reverse ((Equal-is (id_order x y)).0 h)
tie_at (Some x) None e f h = absurd (false≢true f)
tie_at None y e f h = absurd (false≢true e)

tied_all : (variables : List ℕ) (a b : Mapping Id) → binds variables a ≡ true → binds variables b ≡ true → compatible id_order a b ≡ true → order_at variables b a ≡ Equal
tied_all [] a b h k c = refl
tied_all (v ∷ vs) a b h k c =
    (λ i. ordering_then (tie_at (term_for a v) (term_for b v) (and_first _ _ h) (and_first _ _ k) (agree_at a b v c) i) (tied_all vs a b (and_second _ _ h) (and_second _ _ k) c i))

-- ---- tests of any of a list, in parts

parts_of : (b y u w : Bool) → (((b && y) || u) || ((not b && y) || w)) ≡ (y || (u || w))
parts_of true true u w = refl
parts_of true false u w = refl
parts_of false true true w = refl
parts_of false true false w = refl
parts_of false false u w = refl

module _ {A : Type 0} where
  any_parts : (t q : A → Bool) (xs : List A) → (list_any (λ x. t x && q x) xs || list_any (λ x. not (t x) && q x) xs) ≡ list_any q xs
  any_parts t q [] = refl
  any_parts t q (x ∷ xs) =
      parts_of (t x) (q x) (list_any (λ x. t x && q x) xs) (list_any (λ x. not (t x) && q x) xs) ∙ ap (λ z. q x || z) (any_parts t q xs)

-- ---- what is near has all

given_ties : (b t c p : Bool) → (b ≡ true → c ≡ true → t ≡ true) → (b && (t && (c && p))) ≡ (b && (c && p))
given_ties false t c p f = refl
given_ties true true c p f = refl
given_ties true false true p f = absurd (false≢true (f refl refl))
given_ties true false false p f = refl

module _ (vs : List ℕ) (found loose all : List (Mapping Id)) (same : (q : Mapping Id → Bool) → list_any q found ≡ list_any q (filter (binds vs) all)) (others : loose ≡ filter (λ m. not (binds vs m)) all) (a : Mapping Id) (p : Mapping Id → Bool) where
  abbrev q : Mapping Id → Bool
  q b = compatible id_order a b && p b

  near_bound_has : (b : Bool) → binds vs a ≡ b → list_any q (cond b (tied vs found a) found) ≡ list_any (λ x. binds vs x && q x) all
  near_bound_has true h =
      any-filter q (λ x. is_eq (order_at vs x a)) found
      ∙ same (λ x. is_eq (order_at vs x a) && q x)
      ∙ any-filter (λ x. is_eq (order_at vs x a) && q x) (binds vs) all
      ∙ (λ i. list_any (λ x. given_ties (binds vs x) (is_eq (order_at vs x a)) (compatible id_order a x) (p x) (λ k c. ap is_eq (tied_all vs a x h k c)) i) all)
  near_bound_has false h = same q ∙ any-filter q (binds vs) all

  near_has : list_any q (near vs found loose a) ≡ list_any q all
  near_has =
      list_any-append q (near_bound vs found a) loose
      ∙ (λ i. near_bound_has (binds vs a) refl i || (ap (list_any q) others ∙ any-filter q (λ m. not (binds vs m)) all) i)
      ∙ any_parts (binds vs) q all

pub has_all : (vs : List ℕ) (found loose all : List (Mapping Id)) → ((q : Mapping Id → Bool) → list_any q found ≡ list_any q (filter (binds vs) all))
    → loose ≡ filter (λ m. not (binds vs m)) all → HasAll vs found loose all
has_all vs found loose all same others a p = near_has vs found loose all same others a p

-- the same, of equal lists
pub has_all_is : (vs : List ℕ) (found loose xs all : List (Mapping Id)) → xs ≡ all → HasAll vs found loose xs → HasAll vs found loose all
has_all_is vs found loose xs all e h = subst (λ zs. HasAll vs found loose zs) e h

-- ---- the operators look at compatible mappings alone

module _ (a : Mapping Id) where
  joined_step : (q : Mapping Id) (b : Bool) (y : Mapping Id) (rest : List (Mapping Id))
      → has (mapping_cmp id_order) (cons_option (cond b (Some y) None) rest) q ≡ ((b && eq_by_cmp (mapping_cmp id_order) q y) || has (mapping_cmp id_order) rest q)
  joined_step q true y rest = refl
  joined_step q false y rest = refl

  joined_has : (q : Mapping Id) (xs : List (Mapping Id)) → has (mapping_cmp id_order) (filter_map (joined id_order a) xs) q ≡ list_any (λ b. compatible id_order a b && eq_by_cmp (mapping_cmp id_order) q (merge a b)) xs
  joined_has q [] = refl
  joined_has q (x ∷ xs) =
      joined_step q (compatible id_order a x) (merge a x) (filter_map (joined id_order a) xs)
      ∙ ap (λ z. (compatible id_order a x && eq_by_cmp (mapping_cmp id_order) q (merge a x)) || z) (joined_has q xs)

  apart_step : (c s w : Bool) → ((not c || not s) && not w) ≡ not ((c && s) || w)
  apart_step true true w = refl
  apart_step true false w = refl
  apart_step false s w = refl

  apart_is : (xs : List (Mapping Id)) → list_all (λ b. not (compatible id_order a b) || not (shares a b)) xs ≡ not (list_any (λ b. compatible id_order a b && shares a b) xs)
  apart_is [] = refl
  apart_is (x ∷ xs) =
      ap (λ z. (not (compatible id_order a x) || not (shares a x)) && z) (apart_is xs) ∙ apart_step (compatible id_order a x) (shares a x) (list_any (λ b. compatible id_order a b && shares a b) xs)

  fails_step : (y w : Bool) → (not y && not w) ≡ not (y || w)
  fails_step true w = refl
  fails_step false w = refl

  fails_is : (t : Mapping Id → Bool) (xs : List (Mapping Id)) → list_all (λ b. not (compatible id_order a b && t b)) xs ≡ not (list_any (λ b. compatible id_order a b && t b) xs)
  fails_is t [] = refl
  fails_is t (x ∷ xs) =
      ap (λ z. not (compatible id_order a x && t x) && z) (fails_is t xs) ∙ fails_step (compatible id_order a x && t x) (list_any (λ b. compatible id_order a b && t b) xs)

module _ (vs : List ℕ) (found loose all : List (Mapping Id)) (h : HasAll vs found loose all) where
  joined_near : (q a : Mapping Id) → has (mapping_cmp id_order) (filter_map (joined id_order a) (near vs found loose a)) q ≡ has (mapping_cmp id_order) (filter_map (joined id_order a) all) q
  joined_near q a =
      joined_has a q (near vs found loose a) ∙ h a (λ b. eq_by_cmp (mapping_cmp id_order) q (merge a b)) ∙ sym (joined_has a q all)

  joins_each : (q : Mapping Id) (left : List (Mapping Id)) → has (mapping_cmp id_order) (flat_map (λ a. filter_map (joined id_order a) (near vs found loose a)) left) q
      ≡ has (mapping_cmp id_order) (flat_map (λ a. filter_map (joined id_order a) all) left) q
  joins_each q [] = refl
  joins_each q (a ∷ left) =
      let test = eq_by_cmp (mapping_cmp id_order) q in
      let mine = filter_map (joined id_order a) (near vs found loose a) in
      let whole = filter_map (joined id_order a) all in
      list_any-append test mine (flat_map (λ a. filter_map (joined id_order a) (near vs found loose a)) left)
      ∙ (λ i. joined_near q a i || joins_each q left i)
      ∙ sym (list_any-append test whole (flat_map (λ a. filter_map (joined id_order a) all) left))

  joins_set : (left : List (Mapping Id)) → set_of (mapping_cmp id_order) (flat_map (λ a. filter_map (joined id_order a) (near vs found loose a)) left) ≡ join id_order left all
  joins_set left =
      let mine = flat_map (λ a. filter_map (joined id_order a) (near vs found loose a)) left in
      let whole = flat_map (λ a. filter_map (joined id_order a) all) left in
      same_set mapping_total mapping_exact _ _ (sorted-set_of mapping_total mine) (sorted-set_of mapping_total whole)
      (λ q. has-set_of mapping_total q mine ∙ joins_each q left ∙ sym (has-set_of mapping_total q whole))

  module _ (left xs : List (Mapping Id)) (e : xs ≡ left) where
    pub joins_are : set_of (mapping_cmp id_order) (flat_map (λ a. filter_map (joined id_order a) (near vs found loose a)) xs) ≡ join id_order left all
    joins_are = ap (λ zs. set_of (mapping_cmp id_order) (flat_map (λ a. filter_map (joined id_order a) (near vs found loose a)) zs)) e ∙ joins_set left

    pub apart_are : filter (λ a. list_all (λ b. not (compatible id_order a b) || not (shares a b)) (near vs found loose a)) xs ≡ minus id_order left all
    apart_are i = filter (λ a. (apart_is a (near vs found loose a) ∙ ap not (h a (shares a)) ∙ sym (apart_is a all)) i) (e i)

    pub rest_are : (test : Mapping Id → Bool) → filter (λ a. list_all (λ b. not (compatible id_order a b && test (merge a b))) (near vs found loose a)) xs ≡ diff id_order test left all
    rest_are test i =
        filter (λ a. (fails_is a (λ b. test (merge a b)) (near vs found loose a) ∙ ap not (h a (λ b. test (merge a b))) ∙ sym (fails_is a (λ b. test (merge a b)) all)) i) (e i)
