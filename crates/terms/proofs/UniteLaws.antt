-- Datasets that are united, and lists of terms that are put into one.
use Rattle.std.specs.Prelude.{Bool, ◌||◌, nat_lt, Option, map, slice_index}
use Rattle.std.proofs.Common.{◌≡◌, ℕ, zero, suc, ◌<◌, true, false, List, [], ◌∷◌, ◌++◌, length, Some, None, refl, sym, ap, ◌∙◌, subst, arith, append_assoc}
use Rattle.std.specs.List.{list_any, list_all}
use Rattle.std.specs.Option.{option_map}
use Rattle.std.specs.declared.cmp.Ordering.{Ordering}
use Rattle.std.specs.declared.cmp.Ordering.TheVariants.{Equal}
use Rattle.std.specs.Ordering.{eq_by_cmp}
use Rattle.std.specs.Cmp.{IsTotalOrder}
use Rattle.std.proofs.lemmas.Bool.{and_parts, and_from, ltb-true}
use Rattle.std.proofs.lemmas.List.{map-append, length-map}
use Rattle.std.proofs.lemmas.Simd.{map-map}
use Rattle.std.proofs.lemmas.List.Folds.{list_any-append}
use Rattle.sets.specs.Sets.{set_of, has, union}
use Rattle.sets.proofs.SetLaws.{has-set_of, has-union, sorted-set_of, same_set}
use Rattle.sets.proofs.Filters.{each_joined, each_weaker}
use Rattle.datasets.specs.declared.quad.Quad.{Quad}
use Rattle.datasets.specs.Dataset.{Dataset, IsDataset, quad_order}
use Rattle.terms.specs.declared.term.Term.{Term}
use Rattle.terms.specs.Term.{term_order}
use Rattle.terms.specs.TermLaws.{term_total, term_exact}
use Rattle.terms.specs.DataSet.{in_named, dataset_of, united, ListsUnite}
use Rattle.terms.specs.Placed.{term_at, quad_at, is_within, is_name_within, is_quad_within, AreWithin, AreAt, GoesOn, dataset_at, quad_of_places}
use Rattle.terms.proofs.DataSetLaws.{quads_total, quads_exact, any_named, IsDataset-of}
use Rattle.terms.proofs.PlacedLaws.{IsPlaced, map_alike, term_kept, within_kept, lists_kept, dataset_kept}

-- ---- sets of lists, one behind the other

module _ {A : Type 0} {R : A → A → Ordering} (o : IsTotalOrder R) (exact : (x y : A) → R x y ≡ Equal → x ≡ y) where
  pub set_of-append : (xs ys : List A) → set_of R (xs ++ ys) ≡ union R (set_of R xs) (set_of R ys)
  set_of-append xs ys =
      same_set o exact _ _ (sorted-set_of o (xs ++ ys)) (sorted-set_of o (set_of R xs ++ set_of R ys))
      (λ q. has-set_of o q (xs ++ ys) ∙ list_any-append (eq_by_cmp R q) xs ys
      ∙ (λ i. sym (has-set_of o q xs) i || sym (has-set_of o q ys) i) ∙ sym (has-union o q (set_of R xs) (set_of R ys)))

pub lists_unite : ListsUnite
lists_unite quads quads' names names' =
    let qs : set_of (quad_order term_order) (quads ++ quads') ≡ union (quad_order term_order) (set_of (quad_order term_order) quads) (set_of (quad_order term_order) quads') =
    set_of-append quads_total quads_exact quads quads' in
    let ns : set_of term_order (names ++ names') ≡ union term_order (set_of term_order names) (set_of term_order names') = set_of-append term_total term_exact names names' in
    λ i. record { quads = qs i; names = ns i }

-- ---- two datasets are one

either : (a b c d : Bool) → (a ≡ true → c ≡ true) → (b ≡ true → d ≡ true) → (a || b) ≡ true → (c || d) ≡ true
either true b c d f g e = ap (λ x. x || d) (f refl)
either false b true d f g e = refl
either false b false d f g e = g e

pub IsDataset-united : (d e : Dataset Term) → IsDataset term_order d → IsDataset term_order e → IsDataset term_order (united d e)
IsDataset-united d e h k =
    IsDataset-of (d.quads ++ e.quads) (d.names ++ e.names) (λ g is. list_any-append (eq_by_cmp term_order g) d.names e.names
    ∙ either (list_any (in_named g) d.quads) (list_any (in_named g) e.quads) (has term_order d.names g) (has term_order e.names g)
    (λ x. h.named g (any_named g d.quads ∙ x)) (λ x. k.named g (any_named g e.quads ∙ x))
    (sym (list_any-append (in_named g) d.quads e.quads) ∙ sym (any_named g (d.quads ++ e.quads)) ∙ is))

-- ---- terms at their places

all_mapped : {A B : Type 0} (p : A → Bool) (q : B → Bool) (f : A → B) → ((x : A) → p x ≡ true → q (f x) ≡ true) → (xs : List A) → list_all p xs ≡ true → list_all q (map f xs) ≡ true
all_mapped p q f each [] h = refl
all_mapped p q f each (x ∷ xs) h =
    let parts = and_parts (p x) (list_all p xs) h in
    and_from (q (f x)) _ (each x parts.0) (all_mapped p q f each xs parts.1)

module _ (terms : List Term) where
  at_moved : (places : List ℕ) (i : ℕ) → i < length places → list_all (is_within terms) places ≡ true
      → (term_at terms (slice_index places i) ≡ term_at (map (term_at terms) places) i) × (is_within terms (slice_index places i) ≡ true)
  at_moved [] i h w = absurd (omega (arith, h))
  at_moved (p ∷ ps) zero h w = (refl, (and_parts (is_within terms p) _ w).0)
  at_moved (p ∷ ps) (suc i) h w = at_moved ps i (omega (arith, h)) (and_parts (is_within terms p) _ w).1

module _ (terms others : List Term) (places : List ℕ) (at : AreAt terms places others) where
  as_long : length places ≡ length others
  as_long = sym (length-map places (term_at terms)) ∙ ap length at.0

  -- as many places as terms
  pub place_within : (i : ℕ) → is_within others i ≡ true → is_within places i ≡ true
  place_within i h = ap (nat_lt i) as_long ∙ h

  moved : (i : ℕ) → is_within others i ≡ true → (term_at terms (slice_index places i) ≡ term_at others i) × (is_within terms (slice_index places i) ≡ true)
  moved i h = let m = at_moved terms places i (ltb-true i (length places) (place_within i h)) at.1 in (m.0 ∙ ap (λ ts. term_at ts i) at.0, m.1)

  moved_name : (n : Option ℕ) → is_name_within others n ≡ true
      → (option_map (term_at terms) (option_map (slice_index places) n) ≡ option_map (term_at others) n) × (is_name_within terms (option_map (slice_index places) n) ≡ true)
  moved_name None h = (refl, refl)
  moved_name (Some i) h = let m = moved i h in (ap Some m.0, m.1)

  moved_quad : (q : Quad ℕ) → is_quad_within others q ≡ true → (quad_at terms (quad_of_places places q) ≡ quad_at others q) × (is_quad_within terms (quad_of_places places q) ≡ true)
  moved_quad q h =
      let s = and_parts (is_within others q.subject) _ h in
      let p = and_parts (is_within others q.predicate) _ s.1 in
      let o = and_parts (is_within others q.object) _ p.1 in
      let es = moved q.subject s.0 in
      let ep = moved q.predicate p.0 in
      let eo = moved q.object o.0 in
      let eg = moved_name q.graph o.1 in (
        (λ i. record { subject = es.0 i; predicate = ep.0 i; object = eo.0 i; graph = eg.0 i }),
        and_from (is_within terms (slice_index places q.subject)) _ es.1
            (and_from (is_within terms (slice_index places q.predicate)) _ ep.1 (and_from (is_within terms (slice_index places q.object)) _ eo.1 eg.1)),
      )

  module _ (quads quads' : List (Quad ℕ)) (names names' : List ℕ) (h : AreWithin others quads names)
      (qs : quads' ≡ map (quad_of_places places) quads) (ns : names' ≡ map (slice_index places) names) where
    pub moved_dataset : dataset_at terms quads' names' ≡ dataset_at others quads names
    moved_dataset =
        let q : map (quad_at terms) quads' ≡ map (quad_at others) quads = ap (map (quad_at terms)) qs ∙ map-map (quad_at terms) (quad_of_places places) quads
        ∙ map_alike (λ x. quad_at terms (quad_of_places places x)) (quad_at others) (is_quad_within others) (λ x w. (moved_quad x w).0) quads h.0 in
        let n : map (term_at terms) names' ≡ map (term_at others) names = ap (map (term_at terms)) ns ∙ map-map (term_at terms) (slice_index places) names
        ∙ map_alike (λ x. term_at terms (slice_index places x)) (term_at others) (is_within others) (λ x w. (moved x w).0) names h.1 in
        λ i. dataset_of (q i) (n i)

    pub moved_within : AreWithin terms quads' names'
    moved_within = (
      ap (list_all (is_quad_within terms)) qs
          ∙ all_mapped (is_quad_within others) (is_quad_within terms) (quad_of_places places) (λ x w. (moved_quad x w).1) quads h.0,
      ap (list_all (is_within terms)) ns ∙ all_mapped (is_within others) (is_within terms) (slice_index places) (λ x w. (moved x w).1) names h.1,
    )

-- ---- what the type keeps

module _ (old new : List Term) (on : GoesOn old new) (quads more quads' : List (Quad ℕ)) (names others names' : List ℕ) (h : IsPlaced old quads names)
    (d : Dataset Term) (is : dataset_at new more others ≡ d) (is_dataset : IsDataset term_order d) (within : AreWithin new more others)
    (qs : quads' ≡ quads ++ more) (ns : names' ≡ names ++ others) where
  pub united_dataset : dataset_at new quads' names' ≡ united (dataset_at old quads names) d
  united_dataset =
      (λ i. dataset_at new (qs i) (ns i))
      ∙ (λ i. dataset_of (map-append (quad_at new) quads more i) (map-append (term_at new) names others i))
      ∙ lists_unite (map (quad_at new) quads) (map (quad_at new) more) (map (term_at new) names) (map (term_at new) others)
      ∙ (λ i. united (dataset_kept old new on quads names h.1 i) (is i))

  pub united_placed : IsPlaced new quads' names'
  united_placed =
      let kept = lists_kept old new on quads names h.1 in (
        subst (IsDataset term_order) (sym united_dataset) (IsDataset-united (dataset_at old quads names) d h.0 is_dataset),
        (
          ap (list_all (is_quad_within new)) qs ∙ each_joined (is_quad_within new) quads more kept.0 within.0,
          ap (list_all (is_within new)) ns ∙ each_joined (is_within new) names others kept.1 within.1,
        ),
      )

-- ---- the terms of another list, put in one after another

module _ (old new : List Term) (on : GoesOn old new) (places : List ℕ) (place : ℕ) (t : Term) (others rest rest' : List Term)
    (first : map (term_at old) places ++ rest ≡ others) (within : list_all (is_within old) places ≡ true) (left : rest ≡ t ∷ rest') where
  pub one_more : term_at new place ≡ t → map (term_at new) (places ++ place ∷ []) ++ rest' ≡ others
  one_more is =
      ap (λ xs. xs ++ rest') (map-append (term_at new) places (place ∷ []))
      ∙ (λ i. (map_alike (term_at new) (term_at old) (is_within old) (term_kept old new on) places within i ++ is i ∷ []) ++ rest')
      ∙ append_assoc (map (term_at old) places) (t ∷ []) rest' ∙ ap (λ xs. map (term_at old) places ++ xs) (sym left) ∙ first

  pub one_more_within : is_within new place ≡ true → list_all (is_within new) (places ++ place ∷ []) ≡ true
  one_more_within h =
      each_joined (is_within new) places (place ∷ []) (each_weaker (is_within old) (is_within new) (within_kept old new on) places within) (and_from (is_within new place) true h refl)
