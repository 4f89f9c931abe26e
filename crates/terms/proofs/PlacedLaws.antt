-- Terms keep their places where a list of terms goes on.
use Rattle.std.specs.Prelude.{Result, Ok, Err, OnErr, Bool, Option, map, slice_index_or, slice_get}
use Rattle.std.proofs.Common.{◌≡◌, ℕ, zero, suc, ◌<◌, true, false, List, [], ◌∷◌, ◌++◌, length, Some, None, refl, sym, ap, subst, ◌∙◌, arith, if◌then◌else◌}
use Rattle.std.specs.List.{list_all, AllByRecursion, IsDistinct}
use Rattle.std.specs.Ordering.{eq_by_cmp, is_eq}
use Rattle.std.specs.Cmp.{tied_itself}
use Rattle.std.proofs.lemmas.Map.Keys.{IsDistinct-head, IsDistinct-tail}
use Rattle.std.specs.Option.{option_map, option_to_list}
use Rattle.std.proofs.lemmas.Bool.{false≢true, ltb-true, lt-ltb, and_parts, and_from}
use Rattle.std.proofs.lemmas.List.{append-nil, append_assoc, map-append, get_or_append_left}
use Rattle.sets.proofs.Filters.{each_joined, each_weaker}
use Rattle.datasets.specs.declared.quad.Quad.{Quad}
use Rattle.datasets.specs.Dataset.{IsDataset}
use Rattle.terms.specs.declared.term.Term.{Term}
use Rattle.terms.specs.declared.term.Term.TheVariants as term
use Rattle.terms.specs.Term.{term_order}
use Rattle.terms.specs.TermLaws.{term_total}
use Rattle.terms.specs.DataSet.{dataset_of, with_quad, with_graph}
use Rattle.terms.specs.Placed.{term_at, quad_at, is_within, is_name_within, is_quad_within, AreWithin, dataset_at, GoesOn, AreApart}
use Rattle.terms.proofs.DataSetLaws.{quad_pushed, graph_pushed, IsDataset-with_quad, IsDataset-with_graph}

-- ---- lists

at_place : {A : Type 0} (xs : List A) (i : ℕ) (d x : A) → slice_get xs i ≡ Some x → i < length xs → slice_index_or xs i d ≡ x
at_place [] i d x e h = absurd (omega (arith, h))
at_place {A} (y ∷ ys) zero d x e h = ap (λ (o : Option A). elim o as (λ _. A) [ Some z ↦ z | None ↦ y ]) e
at_place (y ∷ ys) (suc i) d x e h = at_place ys i d x e (omega (arith, h))

pub map_alike : {A B : Type 0} (f g : A → B) (p : A → Bool) → ((x : A) → p x ≡ true → f x ≡ g x) → (xs : List A) → list_all p xs ≡ true → map f xs ≡ map g xs
map_alike f g p each [] h = refl
map_alike f g p each (x ∷ xs) h =
    let parts = and_parts (p x) (list_all p xs) h in
    let first : f x ≡ g x = each x parts.0 in
    let rest : map f xs ≡ map g xs = map_alike f g p each xs parts.1 in
    λ i. first i ∷ rest i

-- ---- going on

pub stays : (old new : List Term) → new ≡ old → GoesOn old new
stays old new e = ([], e ∙ sym (append-nil old))

pub further : (a b c : List Term) → GoesOn a b → GoesOn b c → GoesOn a c
further a b c g h = (g.0 ++ h.0, h.1 ∙ ap (λ xs. xs ++ h.0) g.1 ∙ append_assoc a g.0 h.0)

pub inserted : (old new : List Term) (t : Term) (there : Bool) → new ≡ (if there then old else old ++ t ∷ []) → GoesOn old new
inserted old new t true e = stays old new e
inserted old new t false e = (t ∷ [], e)

pub stored : (terms : List Term) (place : ℕ) (t : Term) → slice_get terms place ≡ Some t → place < length terms → term_at terms place ≡ t
stored terms place t e h = at_place terms place (term.Made 0 0 0 0) t e h

module _ (old new : List Term) (on : GoesOn old new) where
  pub term_kept : (place : ℕ) → is_within old place ≡ true → term_at new place ≡ term_at old place
  term_kept place h = ap (λ ts. term_at ts place) on.1 ∙ get_or_append_left old on.0 (term.Made 0 0 0 0) place (ltb-true place (length old) h)

  longer : (xs ys : List Term) (n : ℕ) → n < length xs → n < length (xs ++ ys)
  longer [] ys n h = absurd (omega (arith, h))
  longer (x ∷ xs) ys zero h = omega arith
  longer (x ∷ xs) ys (suc n) h = let more : n < length (xs ++ ys) = longer xs ys n (omega (arith, h)) in (omega (arith, more))

  pub within_kept : (place : ℕ) → is_within old place ≡ true → is_within new place ≡ true
  within_kept place h = ap (λ ts. is_within ts place) on.1 ∙ lt-ltb place (length (old ++ on.0)) (longer old on.0 place (ltb-true place (length old) h))

  pub name_kept : (n : Option ℕ) → is_name_within old n ≡ true → option_map (term_at new) n ≡ option_map (term_at old) n
  name_kept None h = refl
  name_kept (Some place) h = ap Some (term_kept place h)

  pub name_within_kept : (n : Option ℕ) → is_name_within old n ≡ true → is_name_within new n ≡ true
  name_within_kept None h = refl
  name_within_kept (Some place) h = within_kept place h

  pub quad_kept : (q : Quad ℕ) → is_quad_within old q ≡ true → quad_at new q ≡ quad_at old q
  quad_kept q h =
      let s = and_parts (is_within old q.subject) _ h in
      let p = and_parts (is_within old q.predicate) _ s.1 in
      let o = and_parts (is_within old q.object) _ p.1 in
      let es : term_at new q.subject ≡ term_at old q.subject = term_kept q.subject s.0 in
      let ep : term_at new q.predicate ≡ term_at old q.predicate = term_kept q.predicate p.0 in
      let eo : term_at new q.object ≡ term_at old q.object = term_kept q.object o.0 in
      let eg : option_map (term_at new) q.graph ≡ option_map (term_at old) q.graph = name_kept q.graph o.1 in
      λ i. record { subject = es i; predicate = ep i; object = eo i; graph = eg i }

  pub quad_within_kept : (q : Quad ℕ) → is_quad_within old q ≡ true → is_quad_within new q ≡ true
  quad_within_kept q h =
      let s = and_parts (is_within old q.subject) _ h in
      let p = and_parts (is_within old q.predicate) _ s.1 in
      let o = and_parts (is_within old q.object) _ p.1 in
      and_from (is_within new q.subject) _ (within_kept q.subject s.0)
      (and_from (is_within new q.predicate) _ (within_kept q.predicate p.0)
      (and_from (is_within new q.object) _ (within_kept q.object o.0) (name_within_kept q.graph o.1)))

  pub dataset_kept : (quads : List (Quad ℕ)) (names : List ℕ) → AreWithin old quads names → dataset_at new quads names ≡ dataset_at old quads names
  dataset_kept quads names h =
      let qs : map (quad_at new) quads ≡ map (quad_at old) quads = map_alike (quad_at new) (quad_at old) (is_quad_within old) quad_kept quads h.0 in
      let ns : map (term_at new) names ≡ map (term_at old) names = map_alike (term_at new) (term_at old) (is_within old) term_kept names h.1 in
      λ i. dataset_of (qs i) (ns i)

  pub lists_kept : (quads : List (Quad ℕ)) (names : List ℕ) → AreWithin old quads names → AreWithin new quads names
  lists_kept quads names h =
      (each_weaker (is_quad_within old) (is_quad_within new) quad_within_kept quads h.0, each_weaker (is_within old) (is_within new) within_kept names h.1)

-- four places found one after another
pub four_places : (a b c d e : List Term) → GoesOn a b → GoesOn b c → GoesOn c d → GoesOn d e → (q : Quad ℕ) (t : Quad Term)
    → term_at b q.subject ≡ t.subject → is_within b q.subject ≡ true
    → term_at c q.predicate ≡ t.predicate → is_within c q.predicate ≡ true
    → term_at d q.object ≡ t.object → is_within d q.object ≡ true
    → option_map (term_at e) q.graph ≡ t.graph → is_name_within e q.graph ≡ true
    → (quad_at e q ≡ t) × (is_quad_within e q ≡ true)
four_places a b c d e ab bc cd de q t ts ws tp wp to wo tg wg =
    let be = further b c e bc (further c d e cd de) in
    let ce = further c d e cd de in
    let s : term_at e q.subject ≡ t.subject = term_kept b e be q.subject ws ∙ ts in
    let p : term_at e q.predicate ≡ t.predicate = term_kept c e ce q.predicate wp ∙ tp in
    let o : term_at e q.object ≡ t.object = term_kept d e de q.object wo ∙ to in (
      (λ i. record { subject = s i; predicate = p i; object = o i; graph = tg i }),
      and_from (is_within e q.subject) _ (within_kept b e be q.subject ws)
          (and_from (is_within e q.predicate) _ (within_kept c e ce q.predicate wp)
          (and_from (is_within e q.object) _ (within_kept d e de q.object wo) wg)),
    )

names_at : (terms : List Term) (n : Option ℕ) → map (term_at terms) (option_to_list n) ≡ option_to_list (option_map (term_at terms) n)
names_at terms None = refl
names_at terms (Some place) = refl

names_within : (terms : List Term) (n : Option ℕ) → is_name_within terms n ≡ true → list_all (is_within terms) (option_to_list n) ≡ true
names_within terms None h = refl
names_within terms (Some place) h = and_from (is_within terms place) true h refl

-- one more quad, and one more name
pub quad_added : (terms : List Term) (quads : List (Quad ℕ)) (names : List ℕ) (q : Quad ℕ) (t : Quad Term) → quad_at terms q ≡ t
    → dataset_at terms (quads ++ q ∷ []) (names ++ option_to_list q.graph) ≡ with_quad t (dataset_at terms quads names)
quad_added terms quads names q t e =
    let qs : map (quad_at terms) (quads ++ q ∷ []) ≡ map (quad_at terms) quads ++ quad_at terms q ∷ [] = map-append (quad_at terms) quads (q ∷ []) in
    let ns : map (term_at terms) (names ++ option_to_list q.graph) ≡ map (term_at terms) names ++ option_to_list (option_map (term_at terms) q.graph) =
    map-append (term_at terms) names (option_to_list q.graph) ∙ ap (λ xs. map (term_at terms) names ++ xs) (names_at terms q.graph) in
    (λ i. dataset_of (qs i) (ns i)) ∙ quad_pushed (map (quad_at terms) quads) (map (term_at terms) names) (quad_at terms q)
    ∙ ap (λ x. with_quad x (dataset_at terms quads names)) e

pub quad_added_within : (terms : List Term) (quads : List (Quad ℕ)) (names : List ℕ) (q : Quad ℕ) → AreWithin terms quads names → is_quad_within terms q ≡ true
    → AreWithin terms (quads ++ q ∷ []) (names ++ option_to_list q.graph)
quad_added_within terms quads names q h w =
    let s = and_parts (is_within terms q.subject) _ w in
    let p = and_parts (is_within terms q.predicate) _ s.1 in
    let o = and_parts (is_within terms q.object) _ p.1 in (
      each_joined (is_quad_within terms) quads (q ∷ []) h.0 (and_from (is_quad_within terms q) true w refl),
      each_joined (is_within terms) names (option_to_list q.graph) h.1 (names_within terms q.graph o.1),
    )

pub name_added : (terms : List Term) (quads : List (Quad ℕ)) (names : List ℕ) (place : ℕ) (t : Term) → term_at terms place ≡ t
    → dataset_at terms quads (names ++ place ∷ []) ≡ with_graph t (dataset_at terms quads names)
name_added terms quads names place t e =
    let ns : map (term_at terms) (names ++ place ∷ []) ≡ map (term_at terms) names ++ term_at terms place ∷ [] = map-append (term_at terms) names (place ∷ []) in
    ap (dataset_of (map (quad_at terms) quads)) ns ∙ graph_pushed (map (quad_at terms) quads) (map (term_at terms) names) (term_at terms place)
    ∙ ap (λ x. with_graph x (dataset_at terms quads names)) e

pub name_added_within : (terms : List Term) (quads : List (Quad ℕ)) (names : List ℕ) (place : ℕ) → AreWithin terms quads names → is_within terms place ≡ true
    → AreWithin terms quads (names ++ place ∷ [])
name_added_within terms quads names place h w = (h.0, each_joined (is_within terms) names (place ∷ []) h.1 (and_from (is_within terms place) true w refl))

-- ---- what the type keeps

abbrev pub IsPlaced : List Term → List (Quad ℕ) → List ℕ → Type 0
IsPlaced terms quads names = IsDataset term_order (dataset_at terms quads names) × AreWithin terms quads names

pub placed_kept : (old new : List Term) → GoesOn old new → (quads : List (Quad ℕ)) (names : List ℕ) → IsPlaced old quads names → IsPlaced new quads names
placed_kept old new on quads names h =
    (subst (IsDataset term_order) (sym (dataset_kept old new on quads names h.1)) h.0, lists_kept old new on quads names h.1)

module _ (old new : List Term) (on : GoesOn old new) (quads quads' : List (Quad ℕ)) (names names' : List ℕ) (h : IsPlaced old quads names) where
  -- nothing was put in
  pub same_placed : quads' ≡ quads → names' ≡ names → IsPlaced new quads' names'
  same_placed qs ns = subst (λ xs. IsPlaced new xs names') (sym qs) (subst (λ xs. IsPlaced new quads xs) (sym ns) (placed_kept old new on quads names h))

  pub same_dataset : quads' ≡ quads → names' ≡ names → dataset_at new quads' names' ≡ dataset_at old quads names
  same_dataset qs ns = (λ i. dataset_at new (qs i) (ns i)) ∙ dataset_kept old new on quads names h.1

  module _ (q : Quad ℕ) (t : Quad Term) (is : quad_at new q ≡ t) (in_new : is_quad_within new q ≡ true) (qs : quads' ≡ quads ++ q ∷ []) (ns : names' ≡ names ++ option_to_list q.graph) where
    pub with_quad_dataset : dataset_at new quads' names' ≡ with_quad t (dataset_at old quads names)
    with_quad_dataset =
        (λ i. dataset_at new (qs i) (ns i)) ∙ quad_added new quads names q t is ∙ ap (with_quad t) (dataset_kept old new on quads names h.1)

    pub with_quad_placed : IsPlaced new quads' names'
    with_quad_placed = (
      subst (IsDataset term_order) (sym with_quad_dataset) (IsDataset-with_quad t (dataset_at old quads names) h.0),
      subst (λ xs. AreWithin new xs names') (sym qs) (subst (λ xs. AreWithin new (quads ++ q ∷ []) xs) (sym ns)
          (quad_added_within new quads names q (lists_kept old new on quads names h.1) in_new)),
    )

  module _ (place : ℕ) (t : Term) (is : term_at new place ≡ t) (in_new : is_within new place ≡ true) (qs : quads' ≡ quads) (ns : names' ≡ names ++ place ∷ []) where
    pub with_graph_dataset : dataset_at new quads' names' ≡ with_graph t (dataset_at old quads names)
    with_graph_dataset =
        (λ i. dataset_at new (qs i) (ns i)) ∙ name_added new quads names place t is ∙ ap (with_graph t) (dataset_kept old new on quads names h.1)

    pub with_graph_placed : IsPlaced new quads' names'
    with_graph_placed = (
      subst (IsDataset term_order) (sym with_graph_dataset) (IsDataset-with_graph t (dataset_at old quads names) h.0),
      subst (λ xs. AreWithin new xs names') (sym qs) (subst (λ xs. AreWithin new quads xs) (sym ns)
          (name_added_within new quads names place (lists_kept old new on quads names h.1) in_new)),
    )

pub on_error : {A E : Type 0} {P : Type 0} (r : Result A E) → P → OnErr r P
on_error (Ok x) p = tt
on_error (Err e) p = p

-- ---- terms of which none comes twice

all_at : {A : Type 0} (P : A → Type 0) (xs : List A) (i : ℕ) (d : A) → AllByRecursion P xs → i < length xs → P (slice_index_or xs i d)
all_at P [] i d h lt = absurd (omega (arith, lt))
all_at P (x ∷ xs) zero d h lt = h.0
all_at P (x ∷ xs) (suc i) d h lt = all_at P xs i d h.1 (omega (arith, lt))

not_again : (t : Term) (ts : List Term) (b : ℕ) (d : Term) → AllByRecursion (λ y. eq_by_cmp term_order t y ≡ false) ts → b < length ts → t ≡ slice_index_or ts b d → ⊥
not_again t ts b d h lt e =
    let equal : eq_by_cmp term_order t (slice_index_or ts b d) ≡ true = ap (λ x. eq_by_cmp term_order t x) (sym e) ∙ ap is_eq (tied_itself term_total t) in
    false≢true (sym (all_at (λ y. eq_by_cmp term_order t y ≡ false) ts b d h lt) ∙ equal)

apart_at : (ts : List Term) (d : Term) → IsDistinct (eq_by_cmp term_order) ts → (a b : ℕ) → a < length ts → b < length ts → slice_index_or ts a d ≡ slice_index_or ts b d → a ≡ b
apart_at [] d h a b ha hb e = absurd (omega (arith, ha))
apart_at (t ∷ ts) d h zero zero ha hb e = refl
apart_at (t ∷ ts) d h zero (suc b) ha hb e = absurd (not_again t ts b d (IsDistinct-head (eq_by_cmp term_order) t ts h) (omega (arith, hb)) e)
apart_at (t ∷ ts) d h (suc a) zero ha hb e = absurd (not_again t ts a d (IsDistinct-head (eq_by_cmp term_order) t ts h) (omega (arith, ha)) (sym e))
apart_at (t ∷ ts) d h (suc a) (suc b) ha hb e = ap suc (apart_at ts d (IsDistinct-tail (eq_by_cmp term_order) t ts h) a b (omega (arith, ha)) (omega (arith, hb)) e)

pub apart : (ts : List Term) → IsDistinct (eq_by_cmp term_order) ts → AreApart ts
apart ts h a b ha hb e = apart_at ts (term.Made 0 0 0 0) h a b (ltb-true a (length ts) ha) (ltb-true b (length ts) hb) e
