-- A renaming carries the solutions of patterns along.
use Rattle.std.proofs.Common.{◌≡◌, ℕ, Bool, true, ◌&&◌, List, [], ◌∷◌, Option, Some, map, refl, sym, ap, ◌∙◌}
use Rattle.std.specs.Prelude.{cond, filter, filter_map}
use Rattle.std.specs.List.{list_all, flat_map}
use Rattle.std.specs.Option.{option_map}
use Rattle.std.specs.declared.cmp.Ordering.{Ordering}
use Rattle.std.proofs.lemmas.Bool.{and_parts, and_from}
use Rattle.sets.specs.Sets.{has, set_of}
use Rattle.datasets.specs.declared.quad.Quad.{Quad}
use Rattle.datasets.specs.Dataset.{Dataset, same_graph, quads_in}
use Rattle.algebra.specs.declared.pattern.Place.TheVariants as place
use Rattle.algebra.specs.declared.pattern.TriplePattern.{TriplePattern}
use Rattle.algebra.specs.Expressions.{Expression}
use Rattle.algebra.specs.Plans.{Plan, Basic, Join, LeftJoin, Union, Minus, Filter, InGraph}
use Rattle.meaning.specs.Mapping.{Mapping, empty_mapping, mapping_cmp, fitted}
use Rattle.meaning.specs.Operators.{join, union_of, minus, left_join}
use Rattle.meaning.specs.Solutions.{mapping_onto, solutions_among, joined_with, basic_solutions, passes_all, solutions}
use Rattle.meaning_laws.specs.Renaming.{renamed_quad, renamed, renamed_pattern, renamed_expression, renamed_plan, renamed_mapping, option_known, quad_known, dataset_known, pattern_known, expression_known, plan_known, mapping_known}
use Rattle.meaning_laws.proofs.RenamedLists.{map-if, all-if, all-filter, all-map, map-filter_map, map-flat_map, all-filter_map, all-flat_map}
use Rattle.meaning_laws.proofs.RenamedSets.{has-map, map-quads_in}
use Rattle.meaning_laws.proofs.RenamedMappings.{empty-map, empty-known, fitted-map, fitted-known, onto-map, onto-known}
use Rattle.meaning_laws.proofs.RenamedOperators.{set-map, set-known, union-map, union-known, join-map, join-known, minus-map, minus-known, passing-map, left-map, left-known}

-- ---- basic patterns

module _ {A B : Type 0} (R : A → A → Ordering) (S : B → B → Ordering) (f : A → B) (k : A → Bool)
    (o : (x y : A) → k x ≡ true → k y ≡ true → S (f x) (f y) ≡ R x y) (width : ℕ) where
  found-known : (t : TriplePattern A) (qs : List (Quad A)) → list_all (quad_known k) qs ≡ true
      → list_all (mapping_known k) (filter_map (mapping_onto R width t) qs) ≡ true
  found-known t qs h = all-filter_map (quad_known k) (mapping_known k) (mapping_onto R width t) (λ q hq. onto-known R S f k o width t q hq) qs h

  among-map : (t : TriplePattern A) (qs : List (Quad A)) → pattern_known k t ≡ true → list_all (quad_known k) qs ≡ true
      → map (renamed_mapping f) (solutions_among R width t qs) ≡ solutions_among S width (renamed_pattern f t) (map (renamed_quad f) qs)
  among-map t qs ht h =
      set-map R S f k o (filter_map (mapping_onto R width t) qs) (found-known t qs h)
      ∙ ap (set_of (mapping_cmp S))
      (map-filter_map (renamed_quad f) (renamed_mapping f) (quad_known k) (mapping_onto R width t) (mapping_onto S width (renamed_pattern f t))
      (λ q hq. onto-map R S f k o width t q ht hq) qs h)

  among-known : (t : TriplePattern A) (qs : List (Quad A)) → list_all (quad_known k) qs ≡ true
      → list_all (mapping_known k) (solutions_among R width t qs) ≡ true
  among-known t qs h = set-known R S f k o (filter_map (mapping_onto R width t) qs) (found-known t qs h)

  joined-map : (found : List (Mapping A)) (ts : List (TriplePattern A)) (qs : List (Quad A))
      → list_all (mapping_known k) found ≡ true → list_all (pattern_known k) ts ≡ true → list_all (quad_known k) qs ≡ true
      → map (renamed_mapping f) (joined_with R width found ts qs)
      ≡ joined_with S width (map (renamed_mapping f) found) (map (renamed_pattern f) ts) (map (renamed_quad f) qs)
  joined-map found [] qs hf ht h = refl
  joined-map found (t ∷ ts) qs hf ht h =
      let parts = and_parts (pattern_known k t) (list_all (pattern_known k) ts) ht in
      let next = solutions_among R width t qs in
      let known = among-known t qs h in
      joined-map (join R found next) ts qs (join-known R S f k o found next hf known) parts.1 h
      ∙ ap (λ (ms : List (Mapping B)). joined_with S width ms (map (renamed_pattern f) ts) (map (renamed_quad f) qs))
      (join-map R S f k o found next hf known
      ∙ ap (join S (map (renamed_mapping f) found)) (among-map t qs parts.0 h))

  joined-known : (found : List (Mapping A)) (ts : List (TriplePattern A)) (qs : List (Quad A))
      → list_all (mapping_known k) found ≡ true → list_all (quad_known k) qs ≡ true
      → list_all (mapping_known k) (joined_with R width found ts qs) ≡ true
  joined-known found [] qs hf h = hf
  joined-known found (t ∷ ts) qs hf h =
      let next = solutions_among R width t qs in
      joined-known (join R found next) ts qs (join-known R S f k o found next hf (among-known t qs h)) h

  none-known : list_all (mapping_known k) (empty_mapping width ∷ []) ≡ true
  none-known = and_from (mapping_known k (empty_mapping width)) true (empty-known k width) refl

  pub basic-map : (ts : List (TriplePattern A)) (qs : List (Quad A)) → list_all (pattern_known k) ts ≡ true
      → list_all (quad_known k) qs ≡ true
      → map (renamed_mapping f) (basic_solutions R width ts qs) ≡ basic_solutions S width (map (renamed_pattern f) ts) (map (renamed_quad f) qs)
  basic-map ts qs ht h =
      joined-map (empty_mapping width ∷ []) ts qs none-known ht h
      ∙ ap (λ (m : Mapping B). joined_with S width (m ∷ []) (map (renamed_pattern f) ts) (map (renamed_quad f) qs)) (empty-map f width)

  pub basic-known : (ts : List (TriplePattern A)) (qs : List (Quad A)) → list_all (quad_known k) qs ≡ true
      → list_all (mapping_known k) (basic_solutions R width ts qs) ≡ true
  basic-known ts qs h = joined-known (empty_mapping width ∷ []) ts qs none-known h

-- ---- patterns

module _ {A B : Type 0} (R : A → A → Ordering) (S : B → B → Ordering) (f : A → B) (k : A → Bool)
    (o : (x y : A) → k x ≡ true → k y ≡ true → S (f x) (f y) ≡ R x y)
    (p : Expression A → Mapping A → Bool) (q : Expression B → Mapping B → Bool)
    (e : (c : Expression A) (m : Mapping A) → expression_known k c ≡ true → mapping_known k m ≡ true
    → q (renamed_expression f c) (renamed_mapping f m) ≡ p c m)
    (width : ℕ) where
  -- the solutions and the tests, before and after
  abbrev found : Plan A → Dataset A → Option A → List (Mapping A)
  found a d g = solutions R p width a d g

  abbrev found_after : Plan A → Dataset A → Option A → List (Mapping B)
  found_after a d g = solutions S q width (renamed_plan f a) (renamed f d) (option_map f g)

  abbrev test : List (Expression A) → Mapping A → Bool
  test es = passes_all p es

  abbrev test_after : List (Expression A) → Mapping B → Bool
  test_after es = passes_all q (map (renamed_expression f) es)

  test-map : (es : List (Expression A)) → list_all (expression_known k) es ≡ true
      → (m : Mapping A) → mapping_known k m ≡ true → test_after es (renamed_mapping f m) ≡ test es m
  test-map es h m hm =
      all-map (renamed_expression f) (expression_known k) (λ c. p c m) (λ c. q c (renamed_mapping f m)) (λ c hc. e c m hc hm) es h

  quads-known : (d : Dataset A) → dataset_known k d ≡ true → list_all (quad_known k) d.quads ≡ true
  quads-known d h = (and_parts (list_all (quad_known k) d.quads) (list_all k d.names) h).0

  names-known : (d : Dataset A) → dataset_known k d ≡ true → list_all k d.names ≡ true
  names-known d h = (and_parts (list_all (quad_known k) d.quads) (list_all k d.names) h).1

  graph-known : (d : Dataset A) (g : Option A) → dataset_known k d ≡ true → list_all (quad_known k) (quads_in R g d.quads) ≡ true
  graph-known d g h = all-filter (quad_known k) (λ x. same_graph R x.graph g) d.quads (quads-known d h)

  -- ---- under a graph variable

  module _ (v : ℕ) where
    -- solutions of a named graph, with the variable bound to its name
    abbrev named : (A → List (Mapping A)) → A → List (Mapping A)
    named ms name = filter_map (fitted R (place.Variable v) name) (ms name)

    abbrev named_after : (B → List (Mapping B)) → B → List (Mapping B)
    named_after ms name = filter_map (fitted S (place.Variable v) name) (ms name)

    named-known : (ms : A → List (Mapping A)) → ((name : A) → list_all (mapping_known k) (ms name) ≡ true)
        → (name : A) → k name ≡ true → list_all (mapping_known k) (named ms name) ≡ true
    named-known ms h name hn =
        all-filter_map (mapping_known k) (mapping_known k) (fitted R (place.Variable v) name)
        (λ m hm. fitted-known R S f k o (place.Variable v) name m hn hm) (ms name) (h name)

    named-map : (ms : A → List (Mapping A)) (ms' : B → List (Mapping B)) → ((name : A) → list_all (mapping_known k) (ms name) ≡ true)
        → (name : A) → k name ≡ true → map (renamed_mapping f) (ms name) ≡ ms' (f name) → map (renamed_mapping f) (named ms name) ≡ named_after ms' (f name)
    named-map ms ms' h name hn e =
        map-filter_map (renamed_mapping f) (renamed_mapping f) (mapping_known k) (fitted R (place.Variable v) name) (fitted S (place.Variable v) (f name))
        (λ m hm. fitted-map R S f k o (place.Variable v) name m refl hn hm) (ms name) (h name)
        ∙ ap (filter_map (fitted S (place.Variable v) (f name))) e

  -- ---- by the pattern

  pub solutions-known : (a : Plan A) (d : Dataset A) (g : Option A) → dataset_known k d ≡ true → list_all (mapping_known k) (found a d g) ≡ true
  solutions-known (Basic ts) d g h = basic-known R S f k o width ts (quads_in R g d.quads) (graph-known d g h)
  solutions-known (Join a b) d g h = join-known R S f k o (found a d g) (found b d g) (solutions-known a d g h) (solutions-known b d g h)
  solutions-known (LeftJoin a b es) d g h =
      left-known R S f k o (test es) (found a d g) (found b d g) (solutions-known a d g h) (solutions-known b d g h)
  solutions-known (Union a b) d g h = union-known R S f k o (found a d g) (found b d g) (solutions-known a d g h) (solutions-known b d g h)
  solutions-known (Minus a b) d g h = minus-known R S f k o (found a d g) (found b d g) (solutions-known a d g h)
  solutions-known (Filter es a) d g h = all-filter (mapping_known k) (test es) (found a d g) (solutions-known a d g h)
  solutions-known (InGraph (place.Term name) a) d g h =
      all-if (mapping_known k) (has R d.names name) (found a d (Some name)) [] (solutions-known a d (Some name) h) refl
  solutions-known (InGraph (place.Variable v) a) d g h =
      let ms = λ (name : A). found a d (Some name) in
      set-known R S f k o (flat_map (named v ms) d.names)
      (all-flat_map k (mapping_known k) (named v ms) (named-known v ms (λ name. solutions-known a d (Some name) h)) d.names (names-known d h))

  pub solutions-map : (a : Plan A) (d : Dataset A) (g : Option A) → plan_known k a ≡ true → dataset_known k d ≡ true → option_known k g ≡ true
      → map (renamed_mapping f) (found a d g) ≡ found_after a d g
  solutions-map (Basic ts) d g ha h hg =
      basic-map R S f k o width ts (quads_in R g d.quads) ha (graph-known d g h)
      ∙ ap (basic_solutions S width (map (renamed_pattern f) ts)) (map-quads_in R S f k o g d.quads hg (quads-known d h))
  solutions-map (Join a b) d g ha h hg =
      let parts = and_parts (plan_known k a) (plan_known k b) ha in
      join-map R S f k o (found a d g) (found b d g) (solutions-known a d g h) (solutions-known b d g h)
      ∙ (λ i. join S (solutions-map a d g parts.0 h hg i) (solutions-map b d g parts.1 h hg i))
  solutions-map (LeftJoin a b es) d g ha h hg =
      let first = and_parts (plan_known k a) (plan_known k b && list_all (expression_known k) es) ha in
      let rest = and_parts (plan_known k b) (list_all (expression_known k) es) first.1 in
      left-map R S f k o (test es) (test_after es) (test-map es rest.1) (found a d g) (found b d g) (solutions-known a d g h) (solutions-known b d g h)
      ∙ (λ i. left_join S (test_after es) (solutions-map a d g first.0 h hg i) (solutions-map b d g rest.0 h hg i))
  solutions-map (Union a b) d g ha h hg =
      let parts = and_parts (plan_known k a) (plan_known k b) ha in
      union-map R S f k o (found a d g) (found b d g) (solutions-known a d g h) (solutions-known b d g h)
      ∙ (λ i. union_of S (solutions-map a d g parts.0 h hg i) (solutions-map b d g parts.1 h hg i))
  solutions-map (Minus a b) d g ha h hg =
      let parts = and_parts (plan_known k a) (plan_known k b) ha in
      minus-map R S f k o (found a d g) (found b d g) (solutions-known a d g h) (solutions-known b d g h)
      ∙ (λ i. minus S (solutions-map a d g parts.0 h hg i) (solutions-map b d g parts.1 h hg i))
  solutions-map (Filter es a) d g ha h hg =
      let parts = and_parts (list_all (expression_known k) es) (plan_known k a) ha in
      passing-map R S f k o (test es) (test_after es) (test-map es parts.0) (found a d g) (solutions-known a d g h)
      ∙ ap (filter (test_after es)) (solutions-map a d g parts.1 h hg)
  solutions-map (InGraph (place.Term name) a) d g ha h hg =
      let parts = and_parts (k name) (plan_known k a) ha in
      map-if (renamed_mapping f) (has R d.names name) (found a d (Some name)) []
      ∙ (λ i. cond (sym (has-map R S f k o d.names name (names-known d h) parts.0) i) (solutions-map a d (Some name) parts.1 h parts.0 i) [])
  solutions-map (InGraph (place.Variable v) a) d g ha h hg =
      let ms = λ (name : A). found a d (Some name) in
      let ms' = λ (name : B). solutions S q width (renamed_plan f a) (renamed f d) (Some name) in
      let each = λ (name : A). solutions-known a d (Some name) h in
      set-map R S f k o (flat_map (named v ms) d.names) (all-flat_map k (mapping_known k) (named v ms) (named-known v ms each) d.names (names-known d h))
      ∙ ap (set_of (mapping_cmp S))
      (map-flat_map f (renamed_mapping f) k (named v ms) (named_after v ms')
      (λ name hn. named-map v ms ms' each name hn (solutions-map a d (Some name) (and_parts true (plan_known k a) ha).1 h hn)) d.names (names-known d h))
