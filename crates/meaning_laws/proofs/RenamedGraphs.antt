-- A renaming carries operations on whole graphs along.
use Rattle.std.proofs.Common.{◌≡◌, Bool, true, false, ◌&&◌, List, [], ◌∷◌, Option, Some, None, Result, Ok, Err, map, sym, refl, ap, ◌∙◌}
use Rattle.std.specs.Prelude.{not, if◌then◌else◌}
use Rattle.std.specs.List.{list_all}
use Rattle.std.specs.Option.{option_map}
use Rattle.std.specs.declared.cmp.Ordering.{Ordering}
use Rattle.std.specs.Ordering.{is_eq}
use Rattle.std.proofs.lemmas.Bool.{and_parts, and_from}
use Rattle.sets.specs.Sets.{with, has, union}
use Rattle.datasets.specs.declared.quad.Quad.{Quad}
use Rattle.datasets.specs.Dataset.{Dataset, quad_order, quads_in, same_graph, is_there}
use Rattle.algebra.specs.declared.update.Target.TheVariants as target
use Rattle.algebra.specs.declared.update.Transfer.{Transfer}
use Rattle.algebra.specs.declared.update.Transfer.TheVariants as transfer
use Rattle.algebra.specs.declared.update.GraphOperation.{GraphOperation}
use Rattle.algebra.specs.declared.update.GraphOperation.TheVariants as graphs
use Rattle.meaning.specs.GraphOperations.{outside, without_name, with_name, cleared, dropped, in_graph, moved_to, added, copied, transferred, graphs_after, silently}
use Rattle.meaning.specs.declared.reply.Cause.{Cause}
use Rattle.meaning.specs.declared.reply.Cause.TheVariants.{GraphExists, GraphMissing}
use Rattle.meaning_laws.specs.Renaming.{renamed_quad, renamed, renamed_graphs, option_known, quad_known, dataset_known, graphs_known}
use Rattle.meaning_laws.proofs.RenamedLists.{map-filter, all-filter}
use Rattle.meaning_laws.proofs.RenamedSets.{map-with, all-with, map-union, all-union, has-map, map-without, option-order, parts_of, quad-order, map-quads_in}

-- ---- results

module _ {A B : Type 0} (f : A → B) (k : A → Bool) where
  -- the renamed dataset, or the same cause or failure
  abbrev pub renamed_result : {E : Type 0} → Result (Dataset A) E → Result (Dataset B) E
  renamed_result (Ok d) = Ok (renamed f d)
  renamed_result (Err e) = Err e

  abbrev pub result_known : {E : Type 0} → Result (Dataset A) E → Bool
  result_known (Ok d) = dataset_known k d
  result_known (Err e) = true

  there-map : (b : Bool) (e : Dataset A) → renamed_result (if b then Ok e else Err GraphMissing) ≡ (if b then Ok (renamed f e) else Err GraphMissing)
  there-map true e = refl
  there-map false e = refl

  there-known : (b : Bool) (e : Dataset A) → dataset_known k e ≡ true → result_known {E = Cause} (if b then Ok e else Err GraphMissing) ≡ true
  there-known true e h = h
  there-known false e h = refl

  exists-map : (b : Bool) (e : Dataset A) → renamed_result (if b then Err GraphExists else Ok e) ≡ (if b then Err GraphExists else Ok (renamed f e))
  exists-map true e = refl
  exists-map false e = refl

  exists-known : (b : Bool) (e : Dataset A) → dataset_known k e ≡ true → result_known {E = Cause} (if b then Err GraphExists else Ok e) ≡ true
  exists-known true e h = refl
  exists-known false e h = h

  same-map : (b : Bool) (d : Dataset A) (e : Result (Dataset A) Cause) → renamed_result (if b then Ok d else e) ≡ (if b then Ok (renamed f d) else renamed_result e)
  same-map true d e = refl
  same-map false d e = refl

  same-known : (b : Bool) (d : Dataset A) (e : Result (Dataset A) Cause) → dataset_known k d ≡ true → result_known e ≡ true → result_known (if b then Ok d else e) ≡ true
  same-known true d e h h' = h
  same-known false d e h h' = h'

  pub silent-map : (R : A → A → Ordering) (S : B → B → Ordering) (silent : Bool) (d : Dataset A) (e : Result (Dataset A) Cause)
      → renamed_result (silently R silent d e) ≡ silently S silent (renamed f d) (renamed_result e)
  silent-map R S silent d (Ok e) = refl
  silent-map R S true d (Err cause) = refl
  silent-map R S false d (Err cause) = refl

  pub silent-known : (R : A → A → Ordering) (silent : Bool) (d : Dataset A) (e : Result (Dataset A) Cause) → dataset_known k d ≡ true → result_known e ≡ true
      → result_known (silently R silent d e) ≡ true
  silent-known R silent d (Ok e) h h' = h'
  silent-known R true d (Err cause) h h' = h
  silent-known R false d (Err cause) h h' = refl

module _ {A B : Type 0} (R : A → A → Ordering) (S : B → B → Ordering) (f : A → B) (k : A → Bool)
    (o : (x y : A) → k x ≡ true → k y ≡ true → S (f x) (f y) ≡ R x y) where
  -- a dataset's quads and names are known
  quads-known : (d : Dataset A) → dataset_known k d ≡ true → list_all (quad_known k) d.quads ≡ true
  quads-known d h = (and_parts (list_all (quad_known k) d.quads) (list_all k d.names) h).0

  names-known : (d : Dataset A) → dataset_known k d ≡ true → list_all k d.names ≡ true
  names-known d h = (and_parts (list_all (quad_known k) d.quads) (list_all k d.names) h).1

  both-known : (d : Dataset A) → list_all (quad_known k) d.quads ≡ true → list_all k d.names ≡ true → dataset_known k d ≡ true
  both-known d h h' = and_from (list_all (quad_known k) d.quads) (list_all k d.names) h h'

  -- ---- names

  map-without_name : (g : Option A) (ns : List A) → option_known k g ≡ true → list_all k ns ≡ true → map f (without_name R g ns) ≡ without_name S (option_map f g) (map f ns)
  map-without_name None ns hg h = refl
  map-without_name (Some g) ns hg h = map-without R S f k o ns (g ∷ []) h (and_from (k g) true hg refl)

  all-without_name : (g : Option A) (ns : List A) → list_all k ns ≡ true → list_all k (without_name R g ns) ≡ true
  all-without_name None ns h = h
  all-without_name (Some g) ns h = all-filter k (λ x. not (has R (g ∷ []) x)) ns h

  map-with_name : (g : Option A) (ns : List A) → option_known k g ≡ true → list_all k ns ≡ true → map f (with_name R g ns) ≡ with_name S (option_map f g) (map f ns)
  map-with_name None ns hg h = refl
  map-with_name (Some g) ns hg h = map-with R S f k o g ns hg h

  all-with_name : (g : Option A) (ns : List A) → option_known k g ≡ true → list_all k ns ≡ true → list_all k (with_name R g ns) ≡ true
  all-with_name None ns hg h = h
  all-with_name (Some g) ns hg h = all-with R S f k o g ns hg h

  is_there-map : (d : Dataset A) (g : Option A) → option_known k g ≡ true → dataset_known k d ≡ true → is_there S (renamed f d) (option_map f g) ≡ is_there R d g
  is_there-map d None hg h = refl
  is_there-map d (Some g) hg h = has-map R S f k o d.names g (names-known d h) hg

  -- ---- quads

  map-outside : (g : Option A) (qs : List (Quad A)) → option_known k g ≡ true → list_all (quad_known k) qs ≡ true
      → map (renamed_quad f) (outside R g qs) ≡ outside S (option_map f g) (map (renamed_quad f) qs)
  map-outside g qs hg h =
      map-filter (renamed_quad f) (quad_known k) (λ q. not (same_graph R q.graph g)) (λ q. not (same_graph S q.graph (option_map f g)))
      (λ q hq i. not (is_eq (option-order R S f k o q.graph g (parts_of R S f k o q hq).graph hg i))) qs h

  all-outside : (g : Option A) (qs : List (Quad A)) → list_all (quad_known k) qs ≡ true → list_all (quad_known k) (outside R g qs) ≡ true
  all-outside g qs h = all-filter (quad_known k) (λ q. not (same_graph R q.graph g)) qs h

  map-in_graph : (to : Option A) (qs : List (Quad A)) → map (renamed_quad f) (map (in_graph R to) qs) ≡ map (in_graph S (option_map f to)) (map (renamed_quad f) qs)
  map-in_graph to [] = refl
  map-in_graph to (q ∷ qs) = ap (λ rest. renamed_quad f (in_graph R to q) ∷ rest) (map-in_graph to qs)

  all-in_graph : (to : Option A) (qs : List (Quad A)) → option_known k to ≡ true → list_all (quad_known k) qs ≡ true → list_all (quad_known k) (map (in_graph R to) qs) ≡ true
  all-in_graph to [] ht h = refl
  all-in_graph to (q ∷ qs) ht h =
      let parts = and_parts (quad_known k q) (list_all (quad_known k) qs) h in
      let p = parts_of R S f k o q parts.0 in
      and_from (quad_known k (in_graph R to q)) (list_all (quad_known k) (map (in_graph R to) qs))
      (and_from (k q.subject) _ p.subject (and_from (k q.predicate) _ p.predicate (and_from (k q.object) (option_known k to) p.object ht)))
      (all-in_graph to qs ht parts.1)

  map-moved_to : (from to : Option A) (d : Dataset A) → option_known k from ≡ true → dataset_known k d ≡ true
      → map (renamed_quad f) (moved_to R from to d) ≡ moved_to S (option_map f from) (option_map f to) (renamed f d)
  map-moved_to from to d hf h =
      map-in_graph to (quads_in R from d.quads)
      ∙ ap (map (in_graph S (option_map f to))) (map-quads_in R S f k o from d.quads hf (quads-known d h))

  all-moved_to : (from to : Option A) (d : Dataset A) → option_known k to ≡ true → dataset_known k d ≡ true → list_all (quad_known k) (moved_to R from to d) ≡ true
  all-moved_to from to d ht h =
      all-in_graph to (quads_in R from d.quads) ht (all-filter (quad_known k) (λ q. same_graph R q.graph from) d.quads (quads-known d h))

  -- ---- datasets

  cleared-map : (g : Option A) (d : Dataset A) → option_known k g ≡ true → dataset_known k d ≡ true → renamed f (cleared R g d) ≡ cleared S (option_map f g) (renamed f d)
  cleared-map g d hg h = λ i. record { quads = map-outside g d.quads hg (quads-known d h) i; names = map f d.names }

  cleared-known : (g : Option A) (d : Dataset A) → dataset_known k d ≡ true → dataset_known k (cleared R g d) ≡ true
  cleared-known g d h = both-known (cleared R g d) (all-outside g d.quads (quads-known d h)) (names-known d h)

  dropped-map : (g : Option A) (d : Dataset A) → option_known k g ≡ true → dataset_known k d ≡ true → renamed f (dropped R g d) ≡ dropped S (option_map f g) (renamed f d)
  dropped-map g d hg h = λ i. record { quads = map-outside g d.quads hg (quads-known d h) i; names = map-without_name g d.names hg (names-known d h) i }

  dropped-known : (g : Option A) (d : Dataset A) → dataset_known k d ≡ true → dataset_known k (dropped R g d) ≡ true
  dropped-known g d h = both-known (dropped R g d) (all-outside g d.quads (quads-known d h)) (all-without_name g d.names (names-known d h))

  -- quads that are kept, with those that are moved
  abbrev joined : (from to : Option A) → Dataset A → List (Quad A) → Dataset A
  joined from to d kept = record { quads = union (quad_order R) kept (moved_to R from to d); names = with_name R to d.names }

  joined-map : (from to : Option A) (d : Dataset A) (kept : List (Quad A)) → option_known k from ≡ true → option_known k to ≡ true → dataset_known k d ≡ true
      → list_all (quad_known k) kept ≡ true
      → renamed f (joined from to d kept)
      ≡ record { quads = union (quad_order S) (map (renamed_quad f) kept) (moved_to S (option_map f from) (option_map f to) (renamed f d)); names = with_name S (option_map f to) (map f d.names) }
  joined-map from to d kept hf ht h hk =
      let quads = map-union (quad_order R) (quad_order S) (renamed_quad f) (quad_known k) (quad-order R S f k o) kept (moved_to R from to d) hk (all-moved_to from to d ht h)
      ∙ ap (union (quad_order S) (map (renamed_quad f) kept)) (map-moved_to from to d hf h) in
      λ i. record { quads = quads i; names = map-with_name to d.names ht (names-known d h) i }

  joined-known : (from to : Option A) (d : Dataset A) (kept : List (Quad A)) → option_known k to ≡ true → dataset_known k d ≡ true → list_all (quad_known k) kept ≡ true
      → dataset_known k (joined from to d kept) ≡ true
  joined-known from to d kept ht h hk =
      both-known (joined from to d kept)
      (all-union (quad_order R) (quad_order S) (renamed_quad f) (quad_known k) (quad-order R S f k o) kept (moved_to R from to d) hk (all-moved_to from to d ht h))
      (all-with_name to d.names ht (names-known d h))

  copied-map : (from to : Option A) (d : Dataset A) → option_known k from ≡ true → option_known k to ≡ true → dataset_known k d ≡ true
      → renamed f (copied R from to d) ≡ copied S (option_map f from) (option_map f to) (renamed f d)
  copied-map from to d hf ht h =
      joined-map from to d (outside R to d.quads) hf ht h (all-outside to d.quads (quads-known d h))
      ∙ (λ i. record {
        quads = union (quad_order S) (map-outside to d.quads ht (quads-known d h) i) (moved_to S (option_map f from) (option_map f to) (renamed f d));
        names = with_name S (option_map f to) (map f d.names);
      })

  copied-known : (from to : Option A) (d : Dataset A) → option_known k to ≡ true → dataset_known k d ≡ true → dataset_known k (copied R from to d) ≡ true
  copied-known from to d ht h = joined-known from to d (outside R to d.quads) ht h (all-outside to d.quads (quads-known d h))

  transferred-map : (how : Transfer) (from to : Option A) (d : Dataset A) → option_known k from ≡ true → option_known k to ≡ true → dataset_known k d ≡ true
      → renamed f (transferred R how from to d) ≡ transferred S how (option_map f from) (option_map f to) (renamed f d)
  transferred-map transfer.Add from to d hf ht h = joined-map from to d d.quads hf ht h (quads-known d h)
  transferred-map transfer.Copy from to d hf ht h = copied-map from to d hf ht h
  transferred-map transfer.Move from to d hf ht h =
      dropped-map from (copied R from to d) hf (copied-known from to d ht h)
      ∙ ap (dropped S (option_map f from)) (copied-map from to d hf ht h)

  transferred-known : (how : Transfer) (from to : Option A) (d : Dataset A) → option_known k to ≡ true → dataset_known k d ≡ true
      → dataset_known k (transferred R how from to d) ≡ true
  transferred-known transfer.Add from to d ht h = joined-known from to d d.quads ht h (quads-known d h)
  transferred-known transfer.Copy from to d ht h = copied-known from to d ht h
  transferred-known transfer.Move from to d ht h = dropped-known from (copied R from to d) (copied-known from to d ht h)

  -- ---- operations

  if_there-map : (g : Option A) (d e : Dataset A) (e' : Dataset B) → option_known k g ≡ true → dataset_known k d ≡ true → renamed f e ≡ e'
      → renamed_result f k (if is_there R d g then Ok e else Err GraphMissing) ≡ (if is_there S (renamed f d) (option_map f g) then Ok e' else Err GraphMissing)
  if_there-map g d e e' hg h same =
      there-map f k (is_there R d g) e
      ∙ (λ i. if sym (is_there-map d g hg h) i then Ok (same i) else Err GraphMissing)

  pub graphs-map : (op : GraphOperation A) (d : Dataset A) → graphs_known k op ≡ true → dataset_known k d ≡ true
      → renamed_result f k (graphs_after R op d) ≡ graphs_after S (renamed_graphs f op) (renamed f d)
  graphs-map (graphs.Create g) d hg h =
      exists-map f k (has R d.names g) (record { quads = d.quads; names = with R g d.names })
      ∙ (λ i. if sym (has-map R S f k o d.names g (names-known d h) hg) i then Err GraphExists
      else Ok (record { quads = map (renamed_quad f) d.quads; names = map-with R S f k o g d.names hg (names-known d h) i }))
  graphs-map (graphs.Drop (target.Graph g)) d hg h =
      if_there-map (Some g) d (dropped R (Some g) d) (dropped S (Some (f g)) (renamed f d)) hg h (dropped-map (Some g) d hg h)
  graphs-map (graphs.Drop target.Default) d hg h = ap Ok (cleared-map None d refl h)
  graphs-map (graphs.Drop target.Named) d hg h = λ i. Ok (record { quads = map-quads_in R S f k o None d.quads refl (quads-known d h) i; names = [] })
  graphs-map (graphs.Drop target.All) d hg h = refl
  graphs-map (graphs.Clear (target.Graph g)) d hg h =
      if_there-map (Some g) d (cleared R (Some g) d) (cleared S (Some (f g)) (renamed f d)) hg h (cleared-map (Some g) d hg h)
  graphs-map (graphs.Clear target.Default) d hg h = ap Ok (cleared-map None d refl h)
  graphs-map (graphs.Clear target.Named) d hg h = λ i. Ok (record { quads = map-quads_in R S f k o None d.quads refl (quads-known d h) i; names = map f d.names })
  graphs-map (graphs.Clear target.All) d hg h = refl
  graphs-map (graphs.Transfer how from to) d hg h =
      let both = and_parts (option_known k from) (option_known k to) hg in
      let after = if_there-map from d (transferred R how from to d) (transferred S how (option_map f from) (option_map f to) (renamed f d)) both.0 h (transferred-map how from to d both.0 both.1 h) in
      same-map f k (same_graph R from to) d (if is_there R d from then Ok (transferred R how from to d) else Err GraphMissing)
      ∙ (λ i. if is_eq (sym (option-order R S f k o from to both.0 both.1) i) then Ok (renamed f d) else after i)

  pub graphs-known : (op : GraphOperation A) (d : Dataset A) → graphs_known k op ≡ true → dataset_known k d ≡ true → result_known f k (graphs_after R op d) ≡ true
  graphs-known (graphs.Create g) d hg h =
      exists-known f k (has R d.names g) (record { quads = d.quads; names = with R g d.names })
      (both-known (record { quads = d.quads; names = with R g d.names }) (quads-known d h) (all-with R S f k o g d.names hg (names-known d h)))
  graphs-known (graphs.Drop (target.Graph g)) d hg h = there-known f k (is_there R d (Some g)) (dropped R (Some g) d) (dropped-known (Some g) d h)
  graphs-known (graphs.Drop target.Default) d hg h = cleared-known None d h
  graphs-known (graphs.Drop target.Named) d hg h =
      both-known (record { quads = quads_in R None d.quads; names = [] }) (all-filter (quad_known k) (λ q. same_graph R q.graph None) d.quads (quads-known d h)) refl
  graphs-known (graphs.Drop target.All) d hg h = refl
  graphs-known (graphs.Clear (target.Graph g)) d hg h = there-known f k (is_there R d (Some g)) (cleared R (Some g) d) (cleared-known (Some g) d h)
  graphs-known (graphs.Clear target.Default) d hg h = cleared-known None d h
  graphs-known (graphs.Clear target.Named) d hg h =
      both-known (record { quads = quads_in R None d.quads; names = d.names }) (all-filter (quad_known k) (λ q. same_graph R q.graph None) d.quads (quads-known d h)) (names-known d h)
  graphs-known (graphs.Clear target.All) d hg h = both-known (record { quads = []; names = d.names }) refl (names-known d h)
  graphs-known (graphs.Transfer how from to) d hg h =
      let both = and_parts (option_known k from) (option_known k to) hg in
      same-known f k (same_graph R from to) d (if is_there R d from then Ok (transferred R how from to d) else Err GraphMissing) h
      (there-known f k (is_there R d from) (transferred R how from to d) (transferred-known how from to d both.1 h))
