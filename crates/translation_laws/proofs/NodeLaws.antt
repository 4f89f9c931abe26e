-- What holds of each node of a group or of quads holds of each term and variable of their pattern
-- and of their template.
use Rattle.std.proofs.Common.{ℕ, List, [], ◌∷◌, map, Option, Some, None}
use Rattle.std.specs.Prelude.{IfSome}
use Rattle.std.specs.List.{AllByRecursion, flat_map}
use Rattle.sets.proofs.Every.{all_joined, all_front, all_back}
use Rattle.terms.specs.declared.term.Term.{Term}
use Rattle.algebra.specs.Expressions.{Expression}
use Rattle.algebra.specs.Plans.{Plan, Union, nothing, filtered, united, united_with}
use Rattle.syntax_trees.specs.declared.tree.Name.{Name}
use Rattle.syntax_trees.specs.declared.tree.Node.{Node}
use Rattle.syntax_trees.specs.declared.tree.Node.TheVariants as node
use Rattle.syntax_trees.specs.declared.tree.Property.{Property}
use Rattle.syntax_trees.specs.declared.tree.SameSubject.{SameSubject}
use Rattle.syntax_trees.specs.declared.tree.Block.{Block}
use Rattle.syntax_trees.specs.Expressions as tree
use Rattle.syntax_trees.specs.Expressions.{Tree}
use Rattle.syntax_trees.specs.Groups as part
use Rattle.syntax_trees.specs.Groups.{Part, Parts, Groups}
use Rattle.names.specs.Names.{Prefixes, name_term, term_of}
use Rattle.names.specs.Numbers.{Labels, number_of, label_number}
use Rattle.nodes.specs.Nodes.{nodes_of_property, nodes_of_subject, nodes_of_triples, nodes_of_block, nodes_of_blocks, nodes_of_tree, nodes_of_part, nodes_of_parts, nodes_of_groups}
use Rattle.group_translation.specs.Triples.{of_property, of_subject, of_triples, place_of, pattern_of, patterns_of, slot_of, graph_of, quad_of, quads_of_block, template_of}
use Rattle.group_translation.specs.Groups.{value_of, translated_tree, filter_of, filters_of, with_part, with_parts, translated_groups, translated_group, block_in, with_block, with_blocks, quads_pattern}
use Rattle.translation_laws.specs.Each.{EachOfPlace, EachOfTriple, EachOfExpression, EachOfPlan, EachOfSlot, EachOfQuad}

module _ {A B : Type 0} (P : A → Type 0) (Q : B → Type 0) (f : A → List B) (each : (x : A) → P x → AllByRecursion Q (f x)) where
  pub all_gathered : (xs : List A) → AllByRecursion P xs → AllByRecursion Q (flat_map f xs)
  all_gathered [] h = tt
  all_gathered (x ∷ xs) h = all_joined Q (f x) (flat_map f xs) (each x h.0) (all_gathered xs h.1)

-- ---- triples, whatever is made of each

module _ {A : Type 0} (E : Node → Type 0) (P : A → Type 0) (f : Node → Node → Node → A) (made : (s v o : Node) → E s → E v → E o → P (f s v o)) where
  objects_each : (s v : Node) (os : List Node) → E s → E v → AllByRecursion E os → AllByRecursion P (map (f s v) os)
  objects_each s v [] hs hv h = tt
  objects_each s v (o ∷ os) hs hv h = (made s v o hs hv h.0, objects_each s v os hs hv h.1)

  properties_each : (s : Node) (ps : List Property) → E s → AllByRecursion E (flat_map nodes_of_property ps) → AllByRecursion P (flat_map (of_property f s) ps)
  properties_each s [] hs h = tt
  properties_each s (p ∷ ps) hs h =
      let here = all_front E (nodes_of_property p) (flat_map nodes_of_property ps) h in
      let later = all_back E (nodes_of_property p) (flat_map nodes_of_property ps) h in
      all_joined P (of_property f s p) (flat_map (of_property f s) ps) (objects_each s p.verb p.objects hs here.0 here.1) (properties_each s ps hs later)

  triples_each : (xs : List SameSubject) → AllByRecursion E (nodes_of_triples xs) → AllByRecursion P (of_triples f xs)
  triples_each [] h = tt
  triples_each (x ∷ xs) h =
      let here = all_front E (nodes_of_subject x) (nodes_of_triples xs) h in
      let later = all_back E (nodes_of_subject x) (nodes_of_triples xs) h in
      all_joined P (of_subject f x) (of_triples f xs) (properties_each x.subject x.properties here.0 here.1) (triples_each xs later)

-- ---- patterns

module _ (ds : Prefixes) (vs : List (List ℕ)) (T : Term → Type 0) (N : ℕ → Type 0) where
  -- of what a node stands for in a pattern
  abbrev pub EachOfNode : Node → Type 0
  EachOfNode (node.Variable v) = N (number_of vs v)
  EachOfNode (node.Name n) = T (term_of ds (node.Name n))
  EachOfNode node.Type = T (term_of ds node.Type)
  EachOfNode (node.Blank l) = T (term_of ds (node.Blank l))
  EachOfNode (node.Literal l) = T (term_of ds (node.Literal l))

  place_each : (n : Node) → EachOfNode n → EachOfPlace T N (place_of ds vs n)
  place_each (node.Variable v) h = h
  place_each (node.Name n) h = h
  place_each node.Type h = h
  place_each (node.Blank l) h = h
  place_each (node.Literal l) h = h

  value_each : (n : Node) → EachOfNode n → EachOfExpression T N (value_of ds vs n)
  value_each (node.Variable v) h = h
  value_each (node.Name n) h = h
  value_each node.Type h = h
  value_each (node.Blank l) h = h
  value_each (node.Literal l) h = h

  pattern_each : (s v o : Node) → EachOfNode s → EachOfNode v → EachOfNode o → EachOfTriple T N (pattern_of ds vs s v o)
  pattern_each s v o hs hv ho = (place_each s hs, place_each v hv, place_each o ho)

  patterns_each : (xs : List SameSubject) → AllByRecursion EachOfNode (nodes_of_triples xs) → AllByRecursion (EachOfTriple T N) (patterns_of ds vs xs)
  patterns_each = triples_each EachOfNode (EachOfTriple T N) (pattern_of ds vs) pattern_each

  tree_each : (e : Tree) → AllByRecursion EachOfNode (nodes_of_tree e) → EachOfExpression T N (translated_tree ds vs e)
  tree_each (tree.Binary o e f) h =
      (tree_each e (all_front EachOfNode (nodes_of_tree e) (nodes_of_tree f) h), tree_each f (all_back EachOfNode (nodes_of_tree e) (nodes_of_tree f) h))
  tree_each (tree.Not e) h = tree_each e h
  tree_each (tree.Value n) h = value_each n h.0
  tree_each (tree.Bound v) h = h.0
  tree_each (tree.Call c e) h = tree_each e h
  tree_each (tree.CallTwo c e f) h =
      (tree_each e (all_front EachOfNode (nodes_of_tree e) (nodes_of_tree f) h), tree_each f (all_back EachOfNode (nodes_of_tree e) (nodes_of_tree f) h))

  filter_each : (p : Part) → AllByRecursion EachOfNode (nodes_of_part p) → AllByRecursion (EachOfExpression T N) (filter_of ds vs p)
  filter_each (part.Filter e) h = (tree_each e h, tt)
  filter_each (part.Triples xs) h = tt
  filter_each (part.Union gs) h = tt
  filter_each (part.Optional g) h = tt
  filter_each (part.Minus g) h = tt
  filter_each (part.InGraph n g) h = tt

  filters_each : (g : Parts) → AllByRecursion EachOfNode (nodes_of_parts g) → AllByRecursion (EachOfExpression T N) (filters_of ds vs g)
  filters_each part.End h = tt
  filters_each (part.Next p g) h =
      all_joined (EachOfExpression T N) (filter_of ds vs p) (filters_of ds vs g)
      (filter_each p (all_front EachOfNode (nodes_of_part p) (nodes_of_parts g) h)) (filters_each g (all_back EachOfNode (nodes_of_part p) (nodes_of_parts g) h))

  filtered_each : (es : List (Expression Term)) (p : Plan Term) → AllByRecursion (EachOfExpression T N) es → EachOfPlan T N p → EachOfPlan T N (filtered es p)
  filtered_each [] p h k = k
  filtered_each (e ∷ es) p h k = (k, h)

  united_with_each : (p : Plan Term) (ps : List (Plan Term)) → EachOfPlan T N p → AllByRecursion (EachOfPlan T N) ps → EachOfPlan T N (united_with p ps)
  united_with_each p [] h k = h
  united_with_each p (q ∷ qs) h k = united_with_each (Union p q) qs (h, k.0) k.1

  united_each : (ps : List (Plan Term)) → AllByRecursion (EachOfPlan T N) ps → EachOfPlan T N (united ps)
  united_each [] h = tt
  united_each (p ∷ ps) h = united_with_each p ps h.0 h.1

  mutual
    part_each : (p : Part) (before : Plan Term) → EachOfPlan T N before → AllByRecursion EachOfNode (nodes_of_part p) → EachOfPlan T N (with_part ds vs before p)
    part_each (part.Triples xs) before b h = (b, patterns_each xs h)
    part_each (part.Union gs) before b h = (b, united_each (translated_groups ds vs gs) (groups_each gs h))
    part_each (part.Optional g) before b h = (b, parts_each g nothing tt h, filters_each g h)
    part_each (part.Minus g) before b h = (b, filtered_each (filters_of ds vs g) (with_parts ds vs nothing g) (filters_each g h) (parts_each g nothing tt h))
    part_each (part.InGraph n g) before b h =
        (b, (place_each n h.0, filtered_each (filters_of ds vs g) (with_parts ds vs nothing g) (filters_each g h.1) (parts_each g nothing tt h.1)))
    part_each (part.Filter e) before b h = b

    parts_each : (g : Parts) (before : Plan Term) → EachOfPlan T N before → AllByRecursion EachOfNode (nodes_of_parts g) → EachOfPlan T N (with_parts ds vs before g)
    parts_each part.End before b h = b
    parts_each (part.Next p g) before b h =
        parts_each g (with_part ds vs before p) (part_each p before b (all_front EachOfNode (nodes_of_part p) (nodes_of_parts g) h))
        (all_back EachOfNode (nodes_of_part p) (nodes_of_parts g) h)

    groups_each : (gs : Groups) → AllByRecursion EachOfNode (nodes_of_groups gs) → AllByRecursion (EachOfPlan T N) (translated_groups ds vs gs)
    groups_each part.Last h = tt
    groups_each (part.Or g gs) h =
        let here = all_front EachOfNode (nodes_of_parts g) (nodes_of_groups gs) h in (
          filtered_each (filters_of ds vs g) (with_parts ds vs nothing g) (filters_each g here) (parts_each g nothing tt here),
          groups_each gs (all_back EachOfNode (nodes_of_parts g) (nodes_of_groups gs) h),
        )

  pub group_each : (g : Parts) → AllByRecursion EachOfNode (nodes_of_parts g) → EachOfPlan T N (translated_group ds vs g)
  group_each g h = filtered_each (filters_of ds vs g) (with_parts ds vs nothing g) (filters_each g h) (parts_each g nothing tt h)

  block_each : (graph : Option Node) (xs : List SameSubject) → AllByRecursion EachOfNode (nodes_of_block (record { graph = graph; triples = xs }))
      → EachOfPlan T N (block_in ds vs graph (Plan.Basic (patterns_of ds vs xs)))
  block_each None xs h = patterns_each xs h
  block_each (Some n) xs h = (place_each n h.0, patterns_each xs h.1)

  blocks_each : (before : Plan Term) (bs : List Block) → EachOfPlan T N before → AllByRecursion EachOfNode (nodes_of_blocks bs) → EachOfPlan T N (with_blocks ds vs before bs)
  blocks_each before [] b h = b
  blocks_each before (x ∷ bs) b h =
      blocks_each (with_block ds vs before x) bs (b, block_each x.graph x.triples (all_front EachOfNode (nodes_of_block x) (nodes_of_blocks bs) h))
      (all_back EachOfNode (nodes_of_block x) (nodes_of_blocks bs) h)

  pub quads_each : (bs : List Block) → AllByRecursion EachOfNode (nodes_of_blocks bs) → EachOfPlan T N (quads_pattern ds vs bs)
  quads_each bs h = blocks_each nothing bs tt h

-- ---- templates

module _ (ds : Prefixes) (vs : List (List ℕ)) (ls : Labels) (T : Term → Type 0) (N L : ℕ → Type 0) where
  -- of what a node stands for in a template
  abbrev pub EachOfSlotNode : Node → Type 0
  EachOfSlotNode (node.Variable v) = N (number_of vs v)
  EachOfSlotNode (node.Blank l) = L (label_number ls l)
  EachOfSlotNode (node.Name n) = T (term_of ds (node.Name n))
  EachOfSlotNode node.Type = T (term_of ds node.Type)
  EachOfSlotNode (node.Literal l) = T (term_of ds (node.Literal l))

  slot_each : (n : Node) → EachOfSlotNode n → EachOfSlot T N L (slot_of ds vs ls n)
  slot_each (node.Variable v) h = h
  slot_each (node.Blank l) h = h
  slot_each (node.Name n) h = h
  slot_each node.Type h = h
  slot_each (node.Literal l) h = h

  graph_each : (with : Option Name) (graph : Option Node) → IfSome with (λ n. T (name_term ds n)) → IfSome graph EachOfSlotNode → IfSome (graph_of ds vs ls with graph) (EachOfSlot T N L)
  graph_each None None w g = tt
  graph_each (Some n) None w g = w
  graph_each with (Some n) w g = slot_each n g

  block_quads_each : (with : Option Name) (graph : Option Node) (xs : List SameSubject) → IfSome with (λ n. T (name_term ds n))
      → AllByRecursion EachOfSlotNode (nodes_of_block (record { graph = graph; triples = xs }))
      → AllByRecursion (EachOfQuad T N L) (quads_of_block ds vs ls with (record { graph = graph; triples = xs }))
  block_quads_each with graph xs w h = from graph h
    where
      quad_each : (graph : Option Node) → IfSome graph EachOfSlotNode → (s v o : Node) → EachOfSlotNode s → EachOfSlotNode v → EachOfSlotNode o
          → EachOfQuad T N L (quad_of ds vs ls (graph_of ds vs ls with graph) s v o)
      quad_each graph g s v o hs hv ho = (slot_each s hs, slot_each v hv, slot_each o ho, graph_each with graph w g)

      from : (graph : Option Node) → AllByRecursion EachOfSlotNode (nodes_of_block (record { graph = graph; triples = xs }))
          → AllByRecursion (EachOfQuad T N L) (quads_of_block ds vs ls with (record { graph = graph; triples = xs }))
      from None h = triples_each EachOfSlotNode (EachOfQuad T N L) (quad_of ds vs ls (graph_of ds vs ls with None)) (quad_each None tt) xs h
      from (Some n) h = triples_each EachOfSlotNode (EachOfQuad T N L) (quad_of ds vs ls (graph_of ds vs ls with (Some n))) (quad_each (Some n) h.0) xs h.1

  pub template_each : (with : Option Name) (bs : List Block) → IfSome with (λ n. T (name_term ds n)) → AllByRecursion EachOfSlotNode (nodes_of_blocks bs)
      → AllByRecursion (EachOfQuad T N L) (template_of ds vs ls with bs)
  template_each with [] w h = tt
  template_each with (b ∷ bs) w h =
      all_joined (EachOfQuad T N L) (quads_of_block ds vs ls with b) (template_of ds vs ls with bs)
      (block_quads_each with b.graph b.triples w (all_front EachOfSlotNode (nodes_of_block b) (nodes_of_blocks bs) h))
      (template_each with bs w (all_back EachOfSlotNode (nodes_of_block b) (nodes_of_blocks bs) h))
