-- A renaming carries instances, effects, answers and runs along.
use Rattle.std.proofs.Common.{◌≡◌, ℕ, ◌+◌, Bool, true, false, ◌&&◌, List, [], ◌∷◌, ◌++◌, length, Option, Some, None, Result, Ok, Err, map, refl, sym, ap, ◌∙◌}
use Rattle.std.specs.Prelude.{not, filter_map, if◌then◌else◌}
use Rattle.std.specs.List.{list_all}
use Rattle.std.specs.Option.{option_map}
use Rattle.std.proofs.lemmas.Bool.{and_parts, and_from}
use Rattle.std.proofs.lemmas.List.{length-map, map-append}
use Rattle.sets.specs.Sets.{has, union, without}
use Rattle.sets.proofs.Filters.{each_joined}
use Rattle.datasets.specs.declared.quad.Quad.{Quad}
use Rattle.datasets.specs.Dataset.{Dataset, quad_order, names_of}
use Rattle.algebra.specs.declared.template.Slot.{Slot}
use Rattle.algebra.specs.declared.template.Slot.TheVariants as slot
use Rattle.algebra.specs.declared.template.QuadTemplate.{QuadTemplate}
use Rattle.meaning.specs.Vocabulary.{Vocabulary}
use Rattle.meaning.specs.Mapping.{Mapping}
use Rattle.meaning.specs.Solutions.{solutions}
use Rattle.meaning.specs.Template.{term_at, in_some, graph_at, is_legal, legal_quad, instance_of, instances, instances_from}
use Rattle.meaning.specs.Effect.{is_too_many, replaced, modified, effect_of}
use Rattle.meaning.specs.GraphOperations.{graphs_after, silently}
use Rattle.meaning.specs.Run.{Request, Failure, then_next, performed, count_new, settled, answer_of, run_from}
use Rattle.algebra.specs.declared.update.Modify.{Modify}
use Rattle.algebra.specs.declared.update.Operation.{Operation}
use Rattle.algebra.specs.declared.update.Operation.TheVariants as operation
use Rattle.meaning.specs.declared.reply.Cause.{Cause}
use Rattle.meaning.specs.declared.reply.Cause.TheVariants.{TooManySolutions}
use Rattle.meaning.specs.declared.reply.Reply.{Reply}
use Rattle.meaning.specs.declared.reply.Reply.TheVariants.{Done}
use Rattle.meaning_laws.specs.Renaming.{renamed_quad, renamed, renamed_slot, renamed_template, renamed_mapping, renamed_operation, renamed_request, option_known, quad_known, dataset_known, slot_known, graph_known, template_known, plan_known, mapping_known, operation_known, request_known, IsRenaming, CarriesRun}
use Rattle.meaning_laws.proofs.RenamedLists.{some-if, known-if, all-filter, map-filter_map, all-filter_map}
use Rattle.meaning_laws.proofs.RenamedSets.{map-union, all-union, map-without, quad-order, map-names_of, all-names_of}
use Rattle.meaning_laws.proofs.RenamedMappings.{term-for, term-for-known}
use Rattle.meaning_laws.proofs.RenamedGraphs.{renamed_result, result_known, silent-map, silent-known, graphs-map, graphs-known}
use Rattle.meaning_laws.proofs.RenamedSolutions.{solutions-map, solutions-known}

-- ---- templates

module _ {A B : Type 0} (V : Vocabulary A) (W : Vocabulary B) (f : A → B) (k : A → Bool) (r : IsRenaming V W f k) where
  term-at : (node : ℕ → A) (node' : ℕ → B) → ((l : ℕ) → f (node l) ≡ node' l) → (m : Mapping A) (s : Slot A)
      → option_map f (term_at V node m s) ≡ term_at W node' (renamed_mapping f m) (renamed_slot f s)
  term-at node node' e m (slot.Term t) = refl
  term-at node node' e m (slot.Variable v) = term-for f m v
  term-at node node' e m (slot.Label l) = ap Some (e l)

  term-known : (node : ℕ → A) → ((l : ℕ) → k (node l) ≡ true) → (m : Mapping A) (s : Slot A) → mapping_known k m ≡ true → slot_known k s ≡ true
      → option_known k (term_at V node m s) ≡ true
  term-known node e m (slot.Term t) hm h = h
  term-known node e m (slot.Variable v) hm h = term-for-known k m v hm
  term-known node e m (slot.Label l) hm h = e l

  some-in : (g : Option A) → option_map (option_map f) (in_some V g) ≡ in_some W (option_map f g)
  some-in None = refl
  some-in (Some g) = refl

  -- whether a graph place is bound to a known graph, or not at all
  place-known : Option (Option A) → Bool
  place-known None = true
  place-known (Some g) = option_known k g

  some-known : (g : Option A) → option_known k g ≡ true → place-known (in_some V g) ≡ true
  unfolding place-known
  some-known None h = refl
  some-known (Some g) h = h

  graph-at : (node : ℕ → A) (node' : ℕ → B) → ((l : ℕ) → f (node l) ≡ node' l) → (m : Mapping A) (g : Option (Slot A))
      → option_map (option_map f) (graph_at V node m g) ≡ graph_at W node' (renamed_mapping f m) (option_map (renamed_slot f) g)
  graph-at node node' e m None = refl
  graph-at node node' e m (Some g) = some-in (term_at V node m g) ∙ ap (in_some W) (term-at node node' e m g)

  graph-is-known : (node : ℕ → A) → ((l : ℕ) → k (node l) ≡ true) → (m : Mapping A) (g : Option (Slot A)) → mapping_known k m ≡ true → graph_known k g ≡ true
      → place-known (graph_at V node m g) ≡ true
  unfolding place-known
  graph-is-known node e m None hm h = refl
  graph-is-known node e m (Some g) hm h = some-known (term_at V node m g) (term-known node e m g hm h)

  legal : (s p : A) (g : Option A) → k s ≡ true → k p ≡ true → option_known k g ≡ true → is_legal W (f s) (f p) (option_map f g) ≡ is_legal V s p g
  legal s p None hs hp hg = λ i. not (r.literals s hs i) && r.iris p hp i
  legal s p (Some g) hs hp hg = λ i. not (r.literals s hs i) && (r.iris p hp i && r.iris g hg i)

  quad-of : (s p o : Option A) (g : Option (Option A)) → option_known k s ≡ true → option_known k p ≡ true → option_known k o ≡ true → place-known g ≡ true
      → option_map (renamed_quad f) (legal_quad V s p o g) ≡ legal_quad W (option_map f s) (option_map f p) (option_map f o) (option_map (option_map f) g)
  unfolding place-known
  quad-of None p o g hs hp ho hg = refl
  quad-of (Some s) None o g hs hp ho hg = refl
  quad-of (Some s) (Some p) None g hs hp ho hg = refl
  quad-of (Some s) (Some p) (Some o) None hs hp ho hg = refl
  quad-of (Some s) (Some p) (Some o) (Some g) hs hp ho hg =
      let q : Quad A = record { subject = s; predicate = p; object = o; graph = g } in
      some-if (renamed_quad f) (is_legal V s p g) q ∙ ap (λ (b : Bool). if b then Some (renamed_quad f q) else None) (sym (legal s p g hs hp hg))

  quad-of-known : (s p o : Option A) (g : Option (Option A)) → option_known k s ≡ true → option_known k p ≡ true → option_known k o ≡ true → place-known g ≡ true
      → option_known (quad_known k) (legal_quad V s p o g) ≡ true
  unfolding place-known
  quad-of-known None p o g hs hp ho hg = refl
  quad-of-known (Some s) None o g hs hp ho hg = refl
  quad-of-known (Some s) (Some p) None g hs hp ho hg = refl
  quad-of-known (Some s) (Some p) (Some o) None hs hp ho hg = refl
  quad-of-known (Some s) (Some p) (Some o) (Some g) hs hp ho hg =
      known-if (quad_known k) (is_legal V s p g) (record { subject = s; predicate = p; object = o; graph = g })
      (and_from (k s) _ hs (and_from (k p) _ hp (and_from (k o) _ ho hg)))

  -- a template's places are known
  record Places (t : QuadTemplate A) : Type 0 where
    pub subject : slot_known k t.subject ≡ true
    pub predicate : slot_known k t.predicate ≡ true
    pub object : slot_known k t.object ≡ true
    pub graph : graph_known k t.graph ≡ true

  places : (t : QuadTemplate A) → template_known k t ≡ true → Places t
  places t h =
      let a = and_parts (slot_known k t.subject) (slot_known k t.predicate && (slot_known k t.object && graph_known k t.graph)) h in
      let b = and_parts (slot_known k t.predicate) (slot_known k t.object && graph_known k t.graph) a.1 in
      let c = and_parts (slot_known k t.object) (graph_known k t.graph) b.1 in
      record { subject = a.0; predicate = b.0; object = c.0; graph = c.1 }

  instance-of : (node : ℕ → A) (node' : ℕ → B) → ((l : ℕ) → f (node l) ≡ node' l) → ((l : ℕ) → k (node l) ≡ true) → (m : Mapping A) (t : QuadTemplate A)
      → mapping_known k m ≡ true → template_known k t ≡ true
      → option_map (renamed_quad f) (instance_of V node m t) ≡ instance_of W node' (renamed_mapping f m) (renamed_template f t)
  instance-of node node' e known m t hm h =
      let p = places t h in
      quad-of (term_at V node m t.subject) (term_at V node m t.predicate) (term_at V node m t.object) (graph_at V node m t.graph)
      (term-known node known m t.subject hm p.subject) (term-known node known m t.predicate hm p.predicate) (term-known node known m t.object hm p.object)
      (graph-is-known node known m t.graph hm p.graph)
      ∙ (λ i. legal_quad W (term-at node node' e m t.subject i) (term-at node node' e m t.predicate i) (term-at node node' e m t.object i) (graph-at node node' e m t.graph i))

  instance-known : (node : ℕ → A) → ((l : ℕ) → k (node l) ≡ true) → (m : Mapping A) (t : QuadTemplate A) → mapping_known k m ≡ true → template_known k t ≡ true
      → option_known (quad_known k) (instance_of V node m t) ≡ true
  instance-known node known m t hm h =
      let p = places t h in
      quad-of-known (term_at V node m t.subject) (term_at V node m t.predicate) (term_at V node m t.object) (graph_at V node m t.graph)
      (term-known node known m t.subject hm p.subject) (term-known node known m t.predicate hm p.predicate) (term-known node known m t.object hm p.object)
      (graph-is-known node known m t.graph hm p.graph)

  each-map : (node : ℕ → A) (node' : ℕ → B) → ((l : ℕ) → f (node l) ≡ node' l) → ((l : ℕ) → k (node l) ≡ true) → (m : Mapping A) (ts : List (QuadTemplate A))
      → mapping_known k m ≡ true → list_all (template_known k) ts ≡ true
      → map (renamed_quad f) (filter_map (instance_of V node m) ts) ≡ filter_map (instance_of W node' (renamed_mapping f m)) (map (renamed_template f) ts)
  each-map node node' e known m ts hm h =
      map-filter_map (renamed_template f) (renamed_quad f) (template_known k) (instance_of V node m) (instance_of W node' (renamed_mapping f m))
      (λ t ht. instance-of node node' e known m t hm ht) ts h

  each-known : (node : ℕ → A) → ((l : ℕ) → k (node l) ≡ true) → (m : Mapping A) (ts : List (QuadTemplate A)) → mapping_known k m ≡ true → list_all (template_known k) ts ≡ true
      → list_all (quad_known k) (filter_map (instance_of V node m) ts) ≡ true
  each-known node known m ts hm h =
      all-filter_map (template_known k) (quad_known k) (instance_of V node m) (λ t ht. instance-known node known m t hm ht) ts h

  instances-from : (i n : ℕ) (ts : List (QuadTemplate A)) (rank : ℕ) (ms : List (Mapping A)) → list_all (template_known k) ts ≡ true → list_all (mapping_known k) ms ≡ true
      → map (renamed_quad f) (instances_from V i n ts rank ms) ≡ instances_from W i n (map (renamed_template f) ts) rank (map (renamed_mapping f) ms)
  instances-from i n ts rank [] h hm = refl
  instances-from i n ts rank (m ∷ ms) h hm =
      let parts = and_parts (mapping_known k m) (list_all (mapping_known k) ms) hm in
      map-append (renamed_quad f) (filter_map (instance_of V (λ l. V.made i n l rank) m) ts) (instances_from V i n ts (rank + 1) ms)
      ∙ (λ j. each-map (λ l. V.made i n l rank) (λ l. W.made i n l rank) (λ l. r.nodes i n l rank) (λ l. r.nodes_known i n l rank) m ts parts.0 h j
      ++ instances-from i n ts (rank + 1) ms h parts.1 j)

  instances-known : (i n : ℕ) (ts : List (QuadTemplate A)) (rank : ℕ) (ms : List (Mapping A)) → list_all (template_known k) ts ≡ true → list_all (mapping_known k) ms ≡ true
      → list_all (quad_known k) (instances_from V i n ts rank ms) ≡ true
  instances-known i n ts rank [] h hm = refl
  instances-known i n ts rank (m ∷ ms) h hm =
      let parts = and_parts (mapping_known k m) (list_all (mapping_known k) ms) hm in
      each_joined (quad_known k) (filter_map (instance_of V (λ l. V.made i n l rank) m) ts) (instances_from V i n ts (rank + 1) ms)
      (each-known (λ l. V.made i n l rank) (λ l. r.nodes_known i n l rank) m ts parts.0 h) (instances-known i n ts (rank + 1) ms h parts.1)

  -- ---- operations

  quads-order : (a b : Quad A) → quad_known k a ≡ true → quad_known k b ≡ true → quad_order W.order (renamed_quad f a) (renamed_quad f b) ≡ quad_order V.order a b
  quads-order = quad-order V.order W.order f k r.order

  replaced-map : (d : Dataset A) (gone qs : List (Quad A)) → dataset_known k d ≡ true → list_all (quad_known k) gone ≡ true → list_all (quad_known k) qs ≡ true
      → renamed f (replaced V d gone qs) ≡ replaced W (renamed f d) (map (renamed_quad f) gone) (map (renamed_quad f) qs)
  replaced-map d gone qs h hg h' =
      let parts = and_parts (list_all (quad_known k) d.quads) (list_all k d.names) h in
      let qo = quads-order in
      let kept = all-filter (quad_known k) (λ x. not (has (quad_order V.order) gone x)) d.quads parts.0 in
      let quads = map-union (quad_order V.order) (quad_order W.order) (renamed_quad f) (quad_known k) qo (without (quad_order V.order) d.quads gone) qs kept h'
      ∙ ap (λ (xs : List (Quad B)). union (quad_order W.order) xs (map (renamed_quad f) qs)) (map-without (quad_order V.order) (quad_order W.order) (renamed_quad f) (quad_known k) qo d.quads gone parts.0 hg) in
      let names = map-union V.order W.order f k r.order d.names (names_of qs) parts.1 (all-names_of V.order W.order f k r.order qs h')
      ∙ ap (union W.order (map f d.names)) (map-names_of V.order W.order f k r.order qs) in
      (λ i. record { quads = quads i; names = names i })

  replaced-known : (d : Dataset A) (gone qs : List (Quad A)) → dataset_known k d ≡ true → list_all (quad_known k) qs ≡ true → dataset_known k (replaced V d gone qs) ≡ true
  replaced-known d gone qs h h' =
      let parts = and_parts (list_all (quad_known k) d.quads) (list_all k d.names) h in
      let kept = all-filter (quad_known k) (λ x. not (has (quad_order V.order) gone x)) d.quads parts.0 in
      and_from (list_all (quad_known k) (replaced V d gone qs).quads) (list_all k (replaced V d gone qs).names)
      (all-union (quad_order V.order) (quad_order W.order) (renamed_quad f) (quad_known k) quads-order (without (quad_order V.order) d.quads gone) qs kept h')
      (all-union V.order W.order f k r.order d.names (names_of qs) parts.1 (all-names_of V.order W.order f k r.order qs h'))

  unless-map : (b : Bool) (d : Dataset A) → renamed_result f k (if b then Err TooManySolutions else Ok d) ≡ (if b then Err TooManySolutions else Ok (renamed f d))
  unless-map true d = refl
  unless-map false d = refl

  unless-known : (b : Bool) (d : Dataset A) → dataset_known k d ≡ true → result_known f k {E = Cause} (if b then Err TooManySolutions else Ok d) ≡ true
  unless-known true d h = refl
  unless-known false d h = h

  modified-map : (i n : ℕ) (gone ts : List (QuadTemplate A)) (ms : List (Mapping A)) (d : Dataset A)
      → list_all (template_known k) gone ≡ true → list_all (template_known k) ts ≡ true → list_all (mapping_known k) ms ≡ true → dataset_known k d ≡ true
      → renamed_result f k (modified V i n gone ts ms d) ≡ modified W i n (map (renamed_template f) gone) (map (renamed_template f) ts) (map (renamed_mapping f) ms) (renamed f d)
  modified-map i n gone ts ms d hg h hm h' =
      unless-map (is_too_many (length ms)) (replaced V d (instances V i n gone ms) (instances V i n ts ms))
      ∙ (λ j. if is_too_many (sym (length-map ms (renamed_mapping f)) j) then Err TooManySolutions else Ok (after j))
    where
      after : renamed f (replaced V d (instances V i n gone ms) (instances V i n ts ms))
          ≡ replaced W (renamed f d) (instances W i n (map (renamed_template f) gone) (map (renamed_mapping f) ms)) (instances W i n (map (renamed_template f) ts) (map (renamed_mapping f) ms))
      after =
          replaced-map d (instances V i n gone ms) (instances V i n ts ms) h' (instances-known i n gone 0 ms hg hm) (instances-known i n ts 0 ms h hm)
          ∙ (λ j. replaced W (renamed f d) (instances-from i n gone 0 ms hg hm j) (instances-from i n ts 0 ms h hm j))

  -- an operation's parts are known
  record Parts (m : Modify A) : Type 0 where
    pub active : option_known k m.active ≡ true
    pub pattern : plan_known k m.pattern ≡ true
    pub delete : list_all (template_known k) m.delete ≡ true
    pub insert : list_all (template_known k) m.insert ≡ true

  parts_of : (m : Modify A) → operation_known k (operation.Modify m) ≡ true → Parts m
  parts_of m h =
      let a = and_parts (option_known k m.active) (plan_known k m.pattern && (list_all (template_known k) m.delete && list_all (template_known k) m.insert)) h in
      let b = and_parts (plan_known k m.pattern) (list_all (template_known k) m.delete && list_all (template_known k) m.insert) a.1 in
      let c = and_parts (list_all (template_known k) m.delete) (list_all (template_known k) m.insert) b.1 in
      record { active = a.0; pattern = b.0; delete = c.0; insert = c.1 }

  found-known : (m : Modify A) (d : Dataset A) → dataset_known k d ≡ true → list_all (mapping_known k) (solutions V.order V.passes m.width m.pattern d m.active) ≡ true
  found-known m d h' = solutions-known V.order W.order f k r.order V.passes W.passes r.passes m.width m.pattern d m.active h'

  effect-map : (i n : ℕ) (op : Operation A) (d : Dataset A) → operation_known k op ≡ true → dataset_known k d ≡ true
      → renamed_result f k (effect_of V i n op d) ≡ effect_of W i n (renamed_operation f op) (renamed f d)
  effect-map i n (operation.Modify m) d h h' =
      let p = parts_of m h in
      modified-map i n m.delete m.insert (solutions V.order V.passes m.width m.pattern d m.active) d p.delete p.insert (found-known m d h') h'
      ∙ ap (λ ms. modified W i n (map (renamed_template f) m.delete) (map (renamed_template f) m.insert) ms (renamed f d))
      (solutions-map V.order W.order f k r.order V.passes W.passes r.passes m.width m.pattern d m.active p.pattern h' p.active)
  effect-map i n (operation.Graphs silent op) d h h' =
      silent-map f k V.order W.order silent d (graphs_after V.order op d)
      ∙ ap (silently W.order silent (renamed f d)) (graphs-map V.order W.order f k r.order op d h h')

  effect-known : (i n : ℕ) (op : Operation A) (d : Dataset A) → operation_known k op ≡ true → dataset_known k d ≡ true → result_known f k (effect_of V i n op d) ≡ true
  effect-known i n (operation.Modify m) d h h' =
      let ms = solutions V.order V.passes m.width m.pattern d m.active in
      unless-known (is_too_many (length ms)) (replaced V d (instances V i n m.delete ms) (instances V i n m.insert ms))
      (replaced-known d (instances V i n m.delete ms) (instances V i n m.insert ms) h' (instances-known i n m.insert 0 ms (parts_of m h).insert (found-known m d h')))
  effect-known i n (operation.Graphs silent op) d h h' =
      silent-known f k V.order silent d (graphs_after V.order op d) h' (graphs-known V.order W.order f k r.order op d h h')

  -- ---- requests

  next-map : (n : ℕ) (e : Result (Dataset A) Cause) (go : Dataset A → Result (Dataset A) Failure) (go' : Dataset B → Result (Dataset B) Failure)
      → result_known f k e ≡ true → ((d : Dataset A) → dataset_known k d ≡ true → renamed_result f k (go d) ≡ go' (renamed f d))
      → renamed_result f k (then_next V n e go) ≡ then_next W n (renamed_result f k e) go'
  next-map n (Ok d) go go' h each = each d h
  next-map n (Err cause) go go' h each = refl

  next-known : (n : ℕ) (e : Result (Dataset A) Cause) (go : Dataset A → Result (Dataset A) Failure)
      → result_known f k e ≡ true → ((d : Dataset A) → dataset_known k d ≡ true → result_known f k (go d) ≡ true) → result_known f k (then_next V n e go) ≡ true
  next-known n (Ok d) go h each = each d h
  next-known n (Err cause) go h each = refl

  performed-map : (i n : ℕ) (ops : List (Operation A)) (d : Dataset A) → list_all (operation_known k) ops ≡ true → dataset_known k d ≡ true
      → renamed_result f k (performed V i n ops d) ≡ performed W i n (map (renamed_operation f) ops) (renamed f d)
  performed-map i n [] d h h' = refl
  performed-map i n (op ∷ ops) d h h' =
      let parts = and_parts (operation_known k op) (list_all (operation_known k) ops) h in
      next-map n (effect_of V i n op d) (performed V i (n + 1) ops) (performed W i (n + 1) (map (renamed_operation f) ops)) (effect-known i n op d parts.0 h')
      (λ e ke. performed-map i (n + 1) ops e parts.1 ke)
      ∙ ap (λ (e : Result (Dataset B) Cause). then_next W n e (performed W i (n + 1) (map (renamed_operation f) ops))) (effect-map i n op d parts.0 h')

  performed-known : (i n : ℕ) (ops : List (Operation A)) (d : Dataset A) → list_all (operation_known k) ops ≡ true → dataset_known k d ≡ true
      → result_known f k (performed V i n ops d) ≡ true
  performed-known i n [] d h h' = h'
  performed-known i n (op ∷ ops) d h h' =
      let parts = and_parts (operation_known k op) (list_all (operation_known k) ops) h in
      next-known n (effect_of V i n op d) (performed V i (n + 1) ops) (effect-known i n op d parts.0 h') (λ e ke. performed-known i (n + 1) ops e parts.1 ke)

  count-map : (d e : Dataset A) → dataset_known k d ≡ true → dataset_known k e ≡ true → count_new V d e ≡ count_new W (renamed f d) (renamed f e)
  count-map d e h h' =
      let dq = and_parts (list_all (quad_known k) d.quads) (list_all k d.names) h in
      let eq = and_parts (list_all (quad_known k) e.quads) (list_all k e.names) h' in
      sym (length-map (without (quad_order V.order) e.quads d.quads) (renamed_quad f))
      ∙ ap length (map-without (quad_order V.order) (quad_order W.order) (renamed_quad f) (quad_known k) quads-order e.quads d.quads eq.0 dq.0)

  -- the renamed dataset with the reply
  abbrev renamed_answer : Dataset A × Reply → Dataset B × Reply
  renamed_answer a = (renamed f a.0, a.1)

  settled-map : (d : Dataset A) (e : Result (Dataset A) Failure) → dataset_known k d ≡ true → result_known f k e ≡ true
      → renamed_answer (settled V d e) ≡ settled W (renamed f d) (renamed_result f k e)
  settled-map d (Ok e) h h' = (λ i. (renamed f e, Done (count-map d e h h' i) (count-map e d h' h i)))
  settled-map d (Err failure) h h' = refl

  settled-known : (d : Dataset A) (e : Result (Dataset A) Failure) → dataset_known k d ≡ true → result_known f k e ≡ true → dataset_known k (settled V d e).0 ≡ true
  settled-known d (Ok e) h h' = h'
  settled-known d (Err failure) h h' = h

  answer-map : (i : ℕ) (q : Request A) (d : Dataset A) → request_known k q ≡ true → dataset_known k d ≡ true
      → renamed_answer (answer_of V i q d) ≡ answer_of W i (renamed_request f q) (renamed f d)
  answer-map i (Ok ops) d h h' =
      settled-map d (performed V i 0 ops d) h' (performed-known i 0 ops d h h')
      ∙ ap (settled W (renamed f d)) (performed-map i 0 ops d h h')
  answer-map i (Err refusal) d h h' = refl

  pub answer-known : (i : ℕ) (q : Request A) (d : Dataset A) → request_known k q ≡ true → dataset_known k d ≡ true → dataset_known k (answer_of V i q d).0 ≡ true
  answer-known i (Ok ops) d h h' = settled-known d (performed V i 0 ops d) h' (performed-known i 0 ops d h h')
  answer-known i (Err refusal) d h h' = h'

  -- ---- blocks

  abbrev renamed_run : Dataset A × List Reply → Dataset B × List Reply
  renamed_run a = (renamed f a.0, a.1)

  run-map : (i : ℕ) (qs : List (Request A)) (d : Dataset A) → list_all (request_known k) qs ≡ true → dataset_known k d ≡ true
      → renamed_run (run_from V i qs d) ≡ run_from W i (map (renamed_request f) qs) (renamed f d)
  run-map i [] d h h' = refl
  run-map i (q ∷ qs) d h h' =
      let parts = and_parts (request_known k q) (list_all (request_known k) qs) h in
      let first = answer-map i q d parts.0 h' in
      let rest = run-map (i + 1) qs (answer_of V i q d).0 parts.1 (answer-known i q d parts.0 h') in
      (λ t. ((rest t).0, (answer_of V i q d).1 ∷ (rest t).1))
      ∙ (λ t. let later = run_from W (i + 1) (map (renamed_request f) qs) (first t).0 in (later.0, (first t).1 ∷ later.1))

  run-known : (i : ℕ) (qs : List (Request A)) (d : Dataset A) → list_all (request_known k) qs ≡ true → dataset_known k d ≡ true → dataset_known k (run_from V i qs d).0 ≡ true
  run-known i [] d h h' = h'
  run-known i (q ∷ qs) d h h' =
      let parts = and_parts (request_known k q) (list_all (request_known k) qs) h in
      run-known (i + 1) qs (answer_of V i q d).0 parts.1 (answer-known i q d parts.0 h')

pub carries_run : {A B : Type 0} → CarriesRun A B
carries_run V W f known requests d r h h' =
    let both = run-map V W f known r 0 requests d h h' in
    record {
      dataset = ap (λ p. p.0) both;
      replies = ap (λ p. p.1) both;
      known_after = run-known V W f known r 0 requests d h h';
    }
