-- The terms of an accepted request are IRIs and literals in their forms, and so is what it brings
-- into a dataset.
use Rattle.std.proofs.Common.{◌≡◌, ℕ, ◌≤◌, ◌^◌, true, false, ◌&&◌, List, [], ◌∷◌, ◌++◌, length, Option, Some, None, Ok, refl, sym, ap, ◌∙◌, subst, arith}
use Rattle.std.specs.Prelude.{IfSome, nat_lt}
use Rattle.std.proofs.lemmas.Bool.{false≢true, or_parts, ltb-false}
use Rattle.std.proofs.lemmas.List.Elements.{recursion_from_All}
use Rattle.std.specs.Option.{option_map, option_to_list}
use Rattle.std.specs.List.{AllByRecursion, flat_map, list_any, list_all}
use Rattle.sets.proofs.Every.{none_passes, all_joined, all_front, all_back}
use Rattle.lexer.specs.declared.token.Token.{Token}
use Rattle.lexer.specs.Form.{HasParts}
use Rattle.lexer.proofs.IriLaws.{tokens_have_parts}
use Rattle.terms.specs.declared.term.Term.{Term}
use Rattle.nquads_laws.specs.WellFormed.{IsTerm, IsIriTerm}
use Rattle.algebra.specs.declared.pattern.Place.{Place}
use Rattle.algebra.specs.declared.pattern.Place.TheVariants as place
use Rattle.algebra.specs.declared.pattern.TriplePattern.{TriplePattern}
use Rattle.algebra.specs.declared.template.Slot.{Slot}
use Rattle.algebra.specs.declared.template.Slot.TheVariants as slot
use Rattle.algebra.specs.declared.template.QuadTemplate.{QuadTemplate}
use Rattle.algebra.specs.declared.update.Modify.{Modify}
use Rattle.algebra.specs.declared.update.Operation.{Operation as Update}
use Rattle.algebra.specs.declared.update.Operation.TheVariants as update
use Rattle.algebra.specs.declared.update.Target.{Target}
use Rattle.algebra.specs.declared.update.Target.TheVariants as target
use Rattle.algebra.specs.Expressions as expression
use Rattle.algebra.specs.Expressions.{Expression}
use Rattle.algebra.specs.Plans as plan
use Rattle.algebra.specs.Plans.{Plan, Basic, Join, LeftJoin, Union, Minus, Filter, InGraph}
use Rattle.meaning.specs.declared.reply.Refusal.TheVariants as refusal
use Rattle.syntax_trees.specs.declared.tree.Name.{Name}
use Rattle.syntax_trees.specs.declared.tree.Node.{Node}
use Rattle.syntax_trees.specs.declared.tree.Node.TheVariants as node
use Rattle.syntax_trees.specs.declared.tree.Block.{Block}
use Rattle.syntax_trees.specs.declared.tree.Place.{Place as Named}
use Rattle.syntax_trees.specs.declared.tree.Place.TheVariants as named
use Rattle.syntax_trees.specs.declared.tree.Operation.{Operation}
use Rattle.syntax_trees.specs.declared.tree.Operation.TheVariants as operation
use Rattle.syntax_trees.specs.declared.tree.Syntax.{Syntax}
use Rattle.syntax_trees.specs.declared.tree.Step.{Step}
use Rattle.syntax_trees.specs.declared.tree.Step.TheVariants as step
use Rattle.syntax_trees.specs.Groups.{group}
use Rattle.names.specs.Names.{Prefixes, declare, name_term}
use Rattle.names.specs.Numbers.{Labels, variables_of, labels_of, with_labels, label_number}
use Rattle.nodes.specs.Nodes.{nodes_of_blocks, nodes_of_parts, nodes_of_target, nodes_of_place, nodes_of_with, nodes_of_where, nodes_of_operation, deleted_of}
use Rattle.faults.specs.Faults.{is_lang_node, is_undeclared_node, is_blank, is_refused, any_refused, operation_count, has_fault}
use Rattle.group_translation.specs.Triples.{template_of}
use Rattle.group_translation.specs.Groups.{translated_group, quads_pattern}
use Rattle.translation.specs.Translation.{target_of, graph_at, modify_with, operation_with, operation_of, translated_after, translated}
use Rattle.grammar.specs.Reads.{Reads, ReadsOperation, create, drop, clear, transferred, insert_data, delete_data, delete_where, modify, ReadsRequest, nothing, prefix, last, next, most_nested}
use Rattle.rules.specs.Refusal.{IsAccepted}
use Rattle.rules.specs.Terms.{terms_of_slot, terms_of_graph, terms_of_quad, terms_of_place, terms_of_pattern, terms_of_expression, terms_of_plan, terms_of_target, terms_of_operation, terms_of_request}
use Rattle.translation_laws.specs.Each.{EachOfPlace, EachOfTriple, EachOfExpression, EachOfPlan, EachOfSlot, EachOfQuad}
use Rattle.translation_laws.specs.Written.{is_name_or_literal}
use Rattle.translation_laws.specs.Formed.{EachBrought, IsFormedRequest}
use Rattle.translation_laws.proofs.NodeLaws.{all_gathered, EachOfNode, EachOfSlotNode, group_each, quads_each, template_each}
use Rattle.translation_laws.proofs.GrammarLaws.{AreUnblank, group_unblank}
use Rattle.translation_laws.proofs.PartLaws.{StepParts, request_parts}
use Rattle.translation_laws.proofs.TokenLaws.{tokens_fewer}
use Rattle.translation_laws.proofs.LabelLaws.{IsNumber, labels_numbered}
use Rattle.translation_laws.proofs.TermLaws.{IsWritten, IsAny, AreIris, no_iris, declared_iris, iri_written, type_written, IsFine, nodes_fine}

-- ---- what holds of each term holds of the terms as they are listed

module _ (T : Term → Type 0) (N L : ℕ → Type 0) where
  place_terms : (p : Place Term) → EachOfPlace T N p → AllByRecursion T (terms_of_place p)
  place_terms (place.Term t) h = (h, tt)
  place_terms (place.Variable v) h = tt

  triple_terms : (t : TriplePattern Term) → EachOfTriple T N t → AllByRecursion T (terms_of_pattern t)
  triple_terms t h =
      all_joined T (terms_of_place t.subject ++ terms_of_place t.predicate) (terms_of_place t.object)
      (all_joined T (terms_of_place t.subject) (terms_of_place t.predicate) (place_terms t.subject h.0) (place_terms t.predicate h.1)) (place_terms t.object h.2)

  expression_terms : (e : Expression Term) → EachOfExpression T N e → AllByRecursion T (terms_of_expression e)
  expression_terms (expression.Constant t) h = (h, tt)
  expression_terms (expression.Variable v) h = tt
  expression_terms (expression.Bound v) h = tt
  expression_terms (expression.One o e) h = expression_terms e h
  expression_terms (expression.Two o e f) h = all_joined T (terms_of_expression e) (terms_of_expression f) (expression_terms e h.0) (expression_terms f h.1)

  filters_terms : (es : List (Expression Term)) → AllByRecursion (EachOfExpression T N) es → AllByRecursion T (flat_map terms_of_expression es)
  filters_terms = all_gathered (EachOfExpression T N) T terms_of_expression expression_terms

  plan_terms : (p : Plan Term) → EachOfPlan T N p → AllByRecursion T (terms_of_plan p)
  plan_terms (Basic ts) h = all_gathered (EachOfTriple T N) T terms_of_pattern triple_terms ts h
  plan_terms (Join a b) h = all_joined T (terms_of_plan a) (terms_of_plan b) (plan_terms a h.0) (plan_terms b h.1)
  plan_terms (LeftJoin a b es) h =
      all_joined T (terms_of_plan a ++ terms_of_plan b) (flat_map terms_of_expression es)
      (all_joined T (terms_of_plan a) (terms_of_plan b) (plan_terms a h.0) (plan_terms b h.1)) (filters_terms es h.2)
  plan_terms (Union a b) h = all_joined T (terms_of_plan a) (terms_of_plan b) (plan_terms a h.0) (plan_terms b h.1)
  plan_terms (Minus a b) h = all_joined T (terms_of_plan a) (terms_of_plan b) (plan_terms a h.0) (plan_terms b h.1)
  plan_terms (Filter es a) h = all_joined T (terms_of_plan a) (flat_map terms_of_expression es) (plan_terms a h.0) (filters_terms es h.1)
  plan_terms (InGraph n a) h = all_joined T (terms_of_place n) (terms_of_plan a) (place_terms n h.0) (plan_terms a h.1)

  slot_terms : (s : Slot Term) → EachOfSlot T N L s → AllByRecursion T (terms_of_slot s)
  slot_terms (slot.Term t) h = (h, tt)
  slot_terms (slot.Variable v) h = tt
  slot_terms (slot.Label l) h = tt

  graph_terms : (g : Option (Slot Term)) → IfSome g (EachOfSlot T N L) → AllByRecursion T (terms_of_graph g)
  graph_terms None h = tt
  graph_terms (Some s) h = slot_terms s h

  quad_terms : (q : QuadTemplate Term) → EachOfQuad T N L q → AllByRecursion T (terms_of_quad q)
  quad_terms q h =
      all_joined T (terms_of_slot q.subject ++ terms_of_slot q.predicate ++ terms_of_slot q.object) (terms_of_graph q.graph)
      (all_joined T (terms_of_slot q.subject ++ terms_of_slot q.predicate) (terms_of_slot q.object)
      (all_joined T (terms_of_slot q.subject) (terms_of_slot q.predicate) (slot_terms q.subject h.0) (slot_terms q.predicate h.1)) (slot_terms q.object h.2))
      (graph_terms q.graph h.3)

  template_terms : (qs : List (QuadTemplate Term)) → AllByRecursion (EachOfQuad T N L) qs → AllByRecursion T (flat_map terms_of_quad qs)
  template_terms = all_gathered (EachOfQuad T N L) T terms_of_quad quad_terms

  active_terms : (g : Option Term) → IfSome g T → AllByRecursion T (option_to_list g)
  active_terms None h = tt
  active_terms (Some t) h = (h, tt)

  modify_terms : (m : Modify Term) → IfSome m.active T → EachOfPlan T N m.pattern → AllByRecursion (EachOfQuad T N L) m.delete → AllByRecursion (EachOfQuad T N L) m.insert
      → AllByRecursion T (terms_of_operation (update.Modify m))
  modify_terms m a p d i =
      all_joined T (option_to_list m.active ++ terms_of_plan m.pattern ++ flat_map terms_of_quad m.delete) (flat_map terms_of_quad m.insert)
      (all_joined T (option_to_list m.active ++ terms_of_plan m.pattern) (flat_map terms_of_quad m.delete)
      (all_joined T (option_to_list m.active) (terms_of_plan m.pattern) (active_terms m.active a) (plan_terms m.pattern p)) (template_terms m.delete d))
      (template_terms m.insert i)

-- ---- the term of a node that nothing is refused for

node_written : (ds : Prefixes) (vs : List (List ℕ)) (n : Node) → IsFine ds n → is_blank n ≡ false → EachOfNode ds vs IsWritten IsAny n
node_written ds vs (node.Name n) h b = iri_written (name_term ds n) h
node_written ds vs node.Type h b = type_written
node_written ds vs (node.Variable v) h b = tt
node_written ds vs (node.Blank l) h b = absurd (false≢true (sym b))
node_written ds vs (node.Literal l) h b = h

nodes_written : (ds : Prefixes) (vs : List (List ℕ)) (ns : List Node) → AllByRecursion (IsFine ds) ns → AreUnblank ns → AllByRecursion (EachOfNode ds vs IsWritten IsAny) ns
nodes_written ds vs [] h b = tt
nodes_written ds vs (n ∷ ns) h b = (node_written ds vs n h.0 b.0, nodes_written ds vs ns h.1 b.1)

module _ (ds : Prefixes) (vs : List (List ℕ)) (ls : Labels) (L : ℕ → Type 0) (numbers : (l : List ℕ) → L (label_number ls l)) where
  slot_written : (n : Node) → IsFine ds n → EachOfSlotNode ds vs ls IsWritten IsAny L n
  slot_written (node.Name n) h = iri_written (name_term ds n) h
  slot_written node.Type h = type_written
  slot_written (node.Variable v) h = tt
  slot_written (node.Blank l) h = numbers l
  slot_written (node.Literal l) h = h

  slots_written : (ns : List Node) → AllByRecursion (IsFine ds) ns → AllByRecursion (EachOfSlotNode ds vs ls IsWritten IsAny L) ns
  slots_written [] h = tt
  slots_written (n ∷ ns) h = (slot_written n h.0, slots_written ns h.1)

  template_written : (with : Option Name) (bs : List Block) → IfSome with (λ n. IsWritten (name_term ds n)) → AllByRecursion (IsFine ds) (nodes_of_blocks bs)
      → AllByRecursion (EachOfQuad IsWritten IsAny L) (template_of ds vs ls with bs)
  template_written with bs w h = template_each ds vs ls IsWritten IsAny L with bs w (slots_written (nodes_of_blocks bs) h)

-- ---- operations

with_written : (ds : Prefixes) (with : Option Name) → AllByRecursion (IsFine ds) (nodes_of_with with) → IfSome with (λ n. IsWritten (name_term ds n))
with_written ds None h = tt
with_written ds (Some n) h = iri_written (name_term ds n) h.0

active_written : (ds : Prefixes) (with : Option Name) → IfSome with (λ n. IsWritten (name_term ds n)) → IfSome (option_map (name_term ds) with) IsWritten
active_written ds None h = tt
active_written ds (Some n) h = h

target_written : (ds : Prefixes) (t : Target Name) → AllByRecursion (IsFine ds) (nodes_of_target t) → AllByRecursion IsWritten (terms_of_target (target_of ds t))
target_written ds (target.Graph n) h = (iri_written (name_term ds n) h.0, tt)
target_written ds target.Default h = tt
target_written ds target.Named h = tt
target_written ds target.All h = tt

place_written : (ds : Prefixes) (p : Named) → AllByRecursion (IsFine ds) (nodes_of_place p) → AllByRecursion IsWritten (option_to_list (graph_at ds p))
place_written ds named.Default h = tt
place_written ds (named.Graph n) h = (iri_written (name_term ds n) h.0, tt)

module _ (ds : Prefixes) (vs : List (List ℕ)) (ls : Labels) where
  any_template : (with : Option Name) (bs : List Block) → IfSome with (λ n. IsWritten (name_term ds n)) → AllByRecursion (IsFine ds) (nodes_of_blocks bs)
      → AllByRecursion (EachOfQuad IsWritten IsAny IsAny) (template_of ds vs ls with bs)
  any_template = template_written ds vs ls IsAny (λ l. tt)

  modify_written : (with : Option Name) (xs ys : List Block) (pattern : Plan Term) → AllByRecursion (IsFine ds) (nodes_of_with with) → EachOfPlan IsWritten IsAny pattern
      → AllByRecursion (IsFine ds) (nodes_of_blocks xs) → AllByRecursion (IsFine ds) (nodes_of_blocks ys) → AllByRecursion IsWritten (terms_of_operation (modify_with ds vs ls with xs ys pattern))
  modify_written with xs ys pattern w p h k =
      let named = with_written ds with w in
      modify_terms IsWritten IsAny IsAny (record {
        width = length vs;
        active = option_map (name_term ds) with;
        pattern = pattern;
        delete = template_of ds vs ls with xs;
        insert = template_of ds vs ls with ys;
      }) (active_written ds with named) p (any_template with xs named h) (any_template with ys named k)

  operation_written : (op : Operation) → AllByRecursion (IsFine ds) (nodes_of_operation op) → AreUnblank (nodes_of_where op)
      → AllByRecursion IsWritten (terms_of_operation (operation_with ds vs ls op))
  operation_written (operation.Create silent n) h b = (iri_written (name_term ds n) h.0, tt)
  operation_written (operation.Drop silent t) h b = target_written ds t h
  operation_written (operation.Clear silent t) h b = target_written ds t h
  operation_written (operation.Transfer how silent from to) h b =
      all_joined IsWritten (option_to_list (graph_at ds from)) (option_to_list (graph_at ds to))
      (place_written ds from (all_front (IsFine ds) (nodes_of_place from) (nodes_of_place to) h)) (place_written ds to (all_back (IsFine ds) (nodes_of_place from) (nodes_of_place to) h))
  operation_written (operation.InsertData qs) h b = modify_written None [] qs plan.nothing tt tt tt h
  operation_written (operation.DeleteData qs) h b = modify_written None qs [] plan.nothing tt tt h tt
  operation_written (operation.DeleteWhere qs) h b =
      modify_written None qs [] (quads_pattern ds vs qs) tt (quads_each ds vs IsWritten IsAny qs (nodes_written ds vs (nodes_of_blocks qs) h b)) h tt
  operation_written (operation.Modify with xs ys g) h b =
      let ns = nodes_of_parts (group g) in
      let front = all_front (IsFine ds) (nodes_of_with with ++ nodes_of_blocks xs ++ nodes_of_blocks ys) ns h in
      let former = all_front (IsFine ds) (nodes_of_with with ++ nodes_of_blocks xs) (nodes_of_blocks ys) front in
      modify_written with xs ys (translated_group ds vs (group g)) (all_front (IsFine ds) (nodes_of_with with) (nodes_of_blocks xs) former)
      (group_each ds vs IsWritten IsAny (group g) (nodes_written ds vs ns (all_back (IsFine ds) (nodes_of_with with ++ nodes_of_blocks xs ++ nodes_of_blocks ys) ns h) b))
      (all_back (IsFine ds) (nodes_of_with with) (nodes_of_blocks xs) former) (all_back (IsFine ds) (nodes_of_with with ++ nodes_of_blocks xs) (nodes_of_blocks ys) front)

-- ---- what an operation brings into a dataset

module _ (T G : Term → Type 0) (term : (t : Term) → IsWritten t → T t) (name : (t : Term) → IsIriTerm t → G t) where
  slot_brought : (s : Slot Term) → EachOfSlot IsWritten IsAny IsNumber s → EachOfSlot T IsAny IsNumber s
  slot_brought (slot.Term t) h = term t h
  slot_brought (slot.Variable v) h = h
  slot_brought (slot.Label l) h = h

  graph_brought : (g : Option (Slot Term)) → IfSome g (EachOfSlot IsWritten IsAny IsNumber) → IfSome g (EachOfSlot T IsAny IsNumber)
  graph_brought None h = tt
  graph_brought (Some s) h = slot_brought s h

  quads_brought : (qs : List (QuadTemplate Term)) → AllByRecursion (EachOfQuad IsWritten IsAny IsNumber) qs → AllByRecursion (EachOfQuad T IsAny IsNumber) qs
  quads_brought [] h = tt
  quads_brought (q ∷ qs) h =
      let is = h.0 in
      ((slot_brought q.subject is.0, slot_brought q.predicate is.1, slot_brought q.object is.2, graph_brought q.graph is.3), quads_brought qs h.1)

  place_brought : (ds : Prefixes) (p : Named) → AllByRecursion (IsFine ds) (nodes_of_place p) → IfSome (graph_at ds p) G
  place_brought ds named.Default h = tt
  place_brought ds (named.Graph n) h = name (name_term ds n) h.0

  module _ (ds : Prefixes) (vs : List (List ℕ)) (ls : Labels) (numbers : (l : List ℕ) → IsNumber (label_number ls l)) where
    insert_brought : (with : Option Name) (bs : List Block) → IfSome with (λ n. IsWritten (name_term ds n)) → AllByRecursion (IsFine ds) (nodes_of_blocks bs)
        → AllByRecursion (EachOfQuad T IsAny IsNumber) (template_of ds vs ls with bs)
    insert_brought with bs w h = quads_brought (template_of ds vs ls with bs) (template_written ds vs ls IsNumber numbers with bs w h)

    operation_brought : (op : Operation) → AllByRecursion (IsFine ds) (nodes_of_operation op) → EachBrought T G IsNumber (operation_with ds vs ls op)
    operation_brought (operation.Create silent n) h = name (name_term ds n) h.0
    operation_brought (operation.Drop silent t) h = tt
    operation_brought (operation.Clear silent t) h = tt
    operation_brought (operation.Transfer how silent from to) h = place_brought ds to (all_back (IsFine ds) (nodes_of_place from) (nodes_of_place to) h)
    operation_brought (operation.InsertData qs) h = insert_brought None qs tt h
    operation_brought (operation.DeleteData qs) h = tt
    operation_brought (operation.DeleteWhere qs) h = tt
    operation_brought (operation.Modify with xs ys g) h =
        let front = all_front (IsFine ds) (nodes_of_with with ++ nodes_of_blocks xs ++ nodes_of_blocks ys) (nodes_of_parts (group g)) h in
        let former = all_front (IsFine ds) (nodes_of_with with ++ nodes_of_blocks xs) (nodes_of_blocks ys) front in
        insert_brought with ys (with_written ds with (all_front (IsFine ds) (nodes_of_with with) (nodes_of_blocks xs) former))
        (all_back (IsFine ds) (nodes_of_with with ++ nodes_of_blocks xs) (nodes_of_blocks ys) front)

-- ---- requests

-- no blank node stands in the group of its WHERE
abbrev GroupUnblank : Operation → Type 0
GroupUnblank (operation.Create silent n) = Unit {0}
GroupUnblank (operation.Drop silent t) = Unit {0}
GroupUnblank (operation.Clear silent t) = Unit {0}
GroupUnblank (operation.Transfer how silent from to) = Unit {0}
GroupUnblank (operation.InsertData qs) = Unit {0}
GroupUnblank (operation.DeleteData qs) = Unit {0}
GroupUnblank (operation.DeleteWhere qs) = Unit {0}
GroupUnblank (operation.Modify with xs ys g) = AreUnblank (nodes_of_parts (group g))

abbrev StepUnblank : Step → Type 0
StepUnblank (step.Declare p i) = Unit {0}
StepUnblank (step.Do op) = GroupUnblank op

where_unblank : (op : Operation) → list_any is_blank (nodes_of_blocks (deleted_of op)) ≡ false → GroupUnblank op → AreUnblank (nodes_of_where op)
where_unblank (operation.Create silent n) e h = tt
where_unblank (operation.Drop silent t) e h = tt
where_unblank (operation.Clear silent t) e h = tt
where_unblank (operation.Transfer how silent from to) e h = tt
where_unblank (operation.InsertData qs) e h = tt
where_unblank (operation.DeleteData qs) e h = tt
where_unblank (operation.DeleteWhere qs) e h = none_passes is_blank (nodes_of_blocks qs) e
where_unblank (operation.Modify with xs ys g) e h = h

-- the nodes of an operation that nothing is refused for are fine
operation_fine : (ds : Prefixes) (most : ℕ) (op : Operation) → AreIris ds → StepParts most (step.Do op) → is_refused refusal.Syntax ds op ≡ false → is_refused refusal.Prefix ds op ≡ false
    → AllByRecursion (IsFine ds) (nodes_of_operation op)
operation_fine ds most op iris parts l u =
    let ns = nodes_of_operation op in
    nodes_fine ds iris ns parts.0 (none_passes (is_lang_node ds) ns l) (none_passes (is_undeclared_node ds) ns u)

steps_written : (most : ℕ) (ds : Prefixes) (steps : List Step) → AreIris ds → AllByRecursion (StepParts most) steps → any_refused refusal.Syntax ds steps ≡ false
    → any_refused refusal.Prefix ds steps ≡ false → any_refused refusal.BlankInDelete ds steps ≡ false → AllByRecursion StepUnblank steps
    → AllByRecursion IsWritten (flat_map terms_of_operation (translated_after ds steps))
steps_written most ds [] iris parts l u b h = tt
steps_written most ds (step.Declare p i ∷ steps) iris parts l u b h = steps_written most (declare p i ds) steps (declared_iris p i ds iris parts.0) parts.1 l u b h.1
steps_written most ds (step.Do op ∷ steps) iris parts l u b h =
    let ls = or_parts (is_refused refusal.Syntax ds op) (any_refused refusal.Syntax ds steps) l in
    let us = or_parts (is_refused refusal.Prefix ds op) (any_refused refusal.Prefix ds steps) u in
    let bs = or_parts (is_refused refusal.BlankInDelete ds op) (any_refused refusal.BlankInDelete ds steps) b in
    all_joined IsWritten (terms_of_operation (operation_of ds op)) (flat_map terms_of_operation (translated_after ds steps))
    (operation_written ds (variables_of (nodes_of_where op)) (with_labels (labels_of (nodes_of_operation op)) []) op (operation_fine ds most op iris parts.0 ls.0 us.0) (where_unblank op bs.0 h.0))
    (steps_written most ds steps iris parts.1 ls.1 us.1 bs.1 h.1)

module _ (T G : Term → Type 0) (term : (t : Term) → IsWritten t → T t) (name : (t : Term) → IsIriTerm t → G t) where
  steps_brought : (most : ℕ) (ds : Prefixes) (steps : List Step) → most ≤ 2 ^ 32 → AreIris ds → AllByRecursion (StepParts most) steps → any_refused refusal.Syntax ds steps ≡ false
      → any_refused refusal.Prefix ds steps ≡ false → AllByRecursion (EachBrought T G IsNumber) (translated_after ds steps)
  steps_brought most ds [] small iris parts l u = tt
  steps_brought most ds (step.Declare p i ∷ steps) small iris parts l u = steps_brought most (declare p i ds) steps small (declared_iris p i ds iris parts.0) parts.1 l u
  steps_brought most ds (step.Do op ∷ steps) small iris parts l u =
      let ls = or_parts (is_refused refusal.Syntax ds op) (any_refused refusal.Syntax ds steps) l in
      let us = or_parts (is_refused refusal.Prefix ds op) (any_refused refusal.Prefix ds steps) u in
      let ns = nodes_of_operation op in
      let counted = parts.0 in
      let few = counted.1 in (
        operation_brought T G term name ds (variables_of (nodes_of_where op)) (with_labels (labels_of ns) []) (labels_numbered ns (omega (arith, few, small))) op
            (operation_fine ds most op iris parts.0 ls.0 us.0),
        steps_brought most ds steps small iris parts.1 ls.1 us.1,
      )

-- ---- what the grammar gives

operation_unblank : (ts : List Token) (op : Operation) (rest : List Token) → ReadsOperation ts op rest → GroupUnblank op
operation_unblank _ _ _ (create k s g) = tt
operation_unblank _ _ _ (drop k s t) = tt
operation_unblank _ _ _ (clear k s t) = tt
operation_unblank _ _ _ (transferred how s from k to) = tt
operation_unblank _ _ _ (insert_data k d q) = tt
operation_unblank _ _ _ (delete_data k d q) = tt
operation_unblank _ _ _ (delete_where k d q) = tt
operation_unblank _ _ _ (modify {ts} {r} {u} {v} {rest} {with} {xs} {ys} {ps} w c k g) = group_unblank most_nested v ps rest g

request_unblank : (ts : List Token) (steps : List Step) → ReadsRequest ts steps → AllByRecursion StepUnblank steps
request_unblank _ _ nothing = tt
request_unblank _ _ (prefix {ts} {rest} {p} {i} {steps} k m) = (tt, request_unblank rest steps m)
request_unblank _ _ (last {ts} {x} o) = (operation_unblank ts x [] o, tt)
request_unblank _ _ (next {ts} {rest} {x} {steps} o m) = (operation_unblank ts x _ o, request_unblank rest steps m)

-- ---- accepted requests

steps_parts : (text : List ℕ) (syntax : Syntax) → Reads text syntax → AllByRecursion (StepParts (length text)) syntax.steps
steps_parts text syntax reads =
    request_parts (length text) reads.request (recursion_from_All HasParts reads.tokens (tokens_have_parts text reads.tokens reads.cut)) (tokens_fewer reads.cut)

reading_terms : (text : List ℕ) (syntax : Syntax) → Reads text syntax → has_fault refusal.Syntax syntax ≡ false → has_fault refusal.Prefix syntax ≡ false → has_fault refusal.BlankInDelete syntax ≡ false
    → AllByRecursion IsWritten (flat_map terms_of_operation (translated syntax.steps))
reading_terms text syntax reads lang undeclared blank =
    steps_written (length text) [] syntax.steps no_iris (steps_parts text syntax reads) lang undeclared blank (request_unblank reads.tokens syntax.steps reads.request)

both_of : (ts : List Term) → AllByRecursion IsWritten ts → (list_all is_name_or_literal ts ≡ true) × AllByRecursion IsTerm ts
both_of [] h = (refl, tt)
both_of (t ∷ ts) h =
    let is = h.0 in
    let rest = both_of ts h.1 in
    (ap (λ b. b && list_all is_name_or_literal ts) is.0 ∙ rest.0, (is.1, rest.1))

pub reading_written : (text : List ℕ) (syntax : Syntax) → Reads text syntax → has_fault refusal.Syntax syntax ≡ false → has_fault refusal.Prefix syntax ≡ false → has_fault refusal.BlankInDelete syntax ≡ false
    → list_all is_name_or_literal (terms_of_request (Ok (translated syntax.steps))) ≡ true
reading_written text syntax reads lang undeclared blank = (both_of (flat_map terms_of_operation (translated syntax.steps)) (reading_terms text syntax reads lang undeclared blank)).0

accepted_terms : (text : List ℕ) (update : List (Update Term)) → IsAccepted text update → AllByRecursion IsWritten (flat_map terms_of_operation update)
accepted_terms text update a =
    subst (λ (ops : List (Update Term)). AllByRecursion IsWritten (flat_map terms_of_operation ops)) (sym a.is)
    (reading_terms text a.syntax a.reads (a.free refusal.Syntax) (a.free refusal.Prefix) (a.free refusal.BlankInDelete))

pub request_written : (text : List ℕ) (update : List (Update Term)) → IsAccepted text update → list_all is_name_or_literal (terms_of_request (Ok update)) ≡ true
request_written text update a = (both_of (flat_map terms_of_operation update) (accepted_terms text update a)).0

pub request_terms : (text : List ℕ) (update : List (Update Term)) → IsAccepted text update → AllByRecursion IsTerm (terms_of_request (Ok update))
request_terms text update a = (both_of (flat_map terms_of_operation update) (accepted_terms text update a)).1

counted : (ds : Prefixes) (steps : List Step) → length (translated_after ds steps) ≡ operation_count steps
counted ds [] = refl
counted ds (step.Declare p i ∷ steps) = counted (declare p i ds) steps
counted ds (step.Do op ∷ steps) = let rest = counted ds steps in omega (arith, rest)

-- a text within the limits has at most 2^20 bytes, and 256 operations
module _ (T G : Term → Type 0) (term : (t : Term) → IsWritten t → T t) (name : (t : Term) → IsIriTerm t → G t) where
  pub request_brought : (text : List ℕ) (update : List (Update Term)) → IsAccepted text update → (length update ≤ 2 ^ 32) × AllByRecursion (EachBrought T G IsNumber) update
  request_brought text update a =
      let limits = or_parts (nat_lt (2 ^ 20) a.syntax.length) (nat_lt 256 (operation_count a.syntax.steps)) (a.free refusal.Limit) in
      let long = ltb-false (2 ^ 20) a.syntax.length limits.0 in
      let many = ltb-false 256 (operation_count a.syntax.steps) limits.1 in
      let bytes = a.reads.bytes in
      let count = counted [] a.syntax.steps in
      subst (λ (ops : List (Update Term)). (length ops ≤ 2 ^ 32) × AllByRecursion (EachBrought T G IsNumber) ops) (sym a.is) (
        omega (arith, many, count),
        steps_brought T G term name (length text) [] a.syntax.steps (omega (arith, long, bytes)) no_iris (steps_parts text a.syntax a.reads) (a.free refusal.Syntax) (a.free refusal.Prefix),
      )

pub request_formed : (text : List ℕ) (update : List (Update Term)) → IsAccepted text update → IsFormedRequest (Ok update)
request_formed = request_brought IsTerm IsIriTerm (λ t h. h.1) (λ t h. h)
