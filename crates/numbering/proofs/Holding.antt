-- A dictionary that holds the terms of a block knows the block.
use Rattle.std.proofs.Common.{◌≡◌, Bool, true, List, [], ◌∷◌, ◌++◌, Option, Some, None, Ok, Err, refl}
use Rattle.std.specs.Prelude.{◌&&◌}
use Rattle.std.specs.List.{list_all, flat_map}
use Rattle.std.specs.Option.{option_to_list}
use Rattle.std.proofs.lemmas.Bool.{and_parts, and_from}
use Rattle.terms.specs.declared.term.Term.{Term}
use Rattle.meaning.specs.Run.{Request}
use Rattle.algebra.specs.declared.template.Slot.{Slot}
use Rattle.algebra.specs.declared.template.Slot.TheVariants as slot
use Rattle.algebra.specs.declared.template.QuadTemplate.{QuadTemplate}
use Rattle.algebra.specs.declared.pattern.Place.{Place}
use Rattle.algebra.specs.declared.pattern.Place.TheVariants as place
use Rattle.algebra.specs.declared.pattern.TriplePattern.{TriplePattern}
use Rattle.algebra.specs.Expressions as expression
use Rattle.algebra.specs.Expressions.{Expression}
use Rattle.algebra.specs.Plans.{Plan, Basic, Join, LeftJoin, Union, Minus, Filter, InGraph}
use Rattle.algebra.specs.declared.update.Target.{Target}
use Rattle.algebra.specs.declared.update.Target.TheVariants as target
use Rattle.algebra.specs.declared.update.GraphOperation.{GraphOperation}
use Rattle.algebra.specs.declared.update.GraphOperation.TheVariants as graphs
use Rattle.algebra.specs.declared.update.Operation.{Operation}
use Rattle.algebra.specs.declared.update.Operation.TheVariants as operation
use Rattle.meaning_laws.specs.Renaming.{option_known, slot_known, graph_known, template_known, place_known, pattern_known, expression_known, plan_known, target_known, graphs_known, operation_known, request_known}
use Rattle.rules.specs.Terms.{terms_of_slot, terms_of_graph, terms_of_quad as terms_of_template, terms_of_place, terms_of_pattern, terms_of_expression, terms_of_plan, terms_of_target, terms_of_graphs, terms_of_operation, terms_of_request, terms_of}
use Rattle.store.proofs.Holding.{all_parts}

module _ (p : Term → Bool) where
  spread_parts : {X : Type 0} (f : X → List Term) (q : X → Bool) → ((x : X) → list_all p (f x) ≡ true → q x ≡ true) → (xs : List X) → list_all p (flat_map f xs) ≡ true → list_all q xs ≡ true
  spread_parts f q each [] h = refl
  spread_parts f q each (x ∷ xs) h =
      let parts = all_parts p (f x) (flat_map f xs) h in
      and_from (q x) (list_all q xs) (each x parts.0) (spread_parts f q each xs parts.1)

  slot_held : (s : Slot Term) → list_all p (terms_of_slot s) ≡ true → slot_known p s ≡ true
  slot_held (slot.Term t) h = (and_parts (p t) true h).0
  slot_held (slot.Variable v) h = refl
  slot_held (slot.Label l) h = refl

  graph_held : (g : Option (Slot Term)) → list_all p (terms_of_graph g) ≡ true → graph_known p g ≡ true
  graph_held None h = refl
  graph_held (Some s) h = slot_held s h

  template_held : (t : QuadTemplate Term) → list_all p (terms_of_template t) ≡ true → template_known p t ≡ true
  template_held t h =
      let a = all_parts p ((terms_of_slot t.subject ++ terms_of_slot t.predicate) ++ terms_of_slot t.object) (terms_of_graph t.graph) h in
      let b = all_parts p (terms_of_slot t.subject ++ terms_of_slot t.predicate) (terms_of_slot t.object) a.0 in
      let c = all_parts p (terms_of_slot t.subject) (terms_of_slot t.predicate) b.0 in
      and_from (slot_known p t.subject) (slot_known p t.predicate && (slot_known p t.object && graph_known p t.graph)) (slot_held t.subject c.0)
      (and_from (slot_known p t.predicate) (slot_known p t.object && graph_known p t.graph) (slot_held t.predicate c.1)
      (and_from (slot_known p t.object) (graph_known p t.graph) (slot_held t.object b.1) (graph_held t.graph a.1)))

  place_held : (x : Place Term) → list_all p (terms_of_place x) ≡ true → place_known p x ≡ true
  place_held (place.Term t) h = (and_parts (p t) true h).0
  place_held (place.Variable v) h = refl

  pattern_held : (t : TriplePattern Term) → list_all p (terms_of_pattern t) ≡ true → pattern_known p t ≡ true
  pattern_held t h =
      let a = all_parts p (terms_of_place t.subject ++ terms_of_place t.predicate) (terms_of_place t.object) h in
      let b = all_parts p (terms_of_place t.subject) (terms_of_place t.predicate) a.0 in
      and_from (place_known p t.subject) (place_known p t.predicate && place_known p t.object) (place_held t.subject b.0)
      (and_from (place_known p t.predicate) (place_known p t.object) (place_held t.predicate b.1) (place_held t.object a.1))

  expression_held : (e : Expression Term) → list_all p (terms_of_expression e) ≡ true → expression_known p e ≡ true
  expression_held (expression.Constant t) h = (and_parts (p t) true h).0
  expression_held (expression.Variable v) h = refl
  expression_held (expression.Bound v) h = refl
  expression_held (expression.One o e) h = expression_held e h
  expression_held (expression.Two o e f) h =
      let a = all_parts p (terms_of_expression e) (terms_of_expression f) h in
      and_from (expression_known p e) (expression_known p f) (expression_held e a.0) (expression_held f a.1)

  expressions_held : (es : List (Expression Term)) → list_all p (flat_map terms_of_expression es) ≡ true → list_all (expression_known p) es ≡ true
  expressions_held es h = spread_parts terms_of_expression (expression_known p) expression_held es h

  plan_held : (w : Plan Term) → list_all p (terms_of_plan w) ≡ true → plan_known p w ≡ true
  plan_held (Basic ts) h = spread_parts terms_of_pattern (pattern_known p) pattern_held ts h
  plan_held (Join v w) h =
      let a = all_parts p (terms_of_plan v) (terms_of_plan w) h in
      and_from (plan_known p v) (plan_known p w) (plan_held v a.0) (plan_held w a.1)
  plan_held (LeftJoin v w es) h =
      let a = all_parts p (terms_of_plan v ++ terms_of_plan w) (flat_map terms_of_expression es) h in
      let b = all_parts p (terms_of_plan v) (terms_of_plan w) a.0 in
      and_from (plan_known p v) (plan_known p w && list_all (expression_known p) es) (plan_held v b.0)
      (and_from (plan_known p w) (list_all (expression_known p) es) (plan_held w b.1) (expressions_held es a.1))
  plan_held (Union v w) h =
      let a = all_parts p (terms_of_plan v) (terms_of_plan w) h in
      and_from (plan_known p v) (plan_known p w) (plan_held v a.0) (plan_held w a.1)
  plan_held (Minus v w) h =
      let a = all_parts p (terms_of_plan v) (terms_of_plan w) h in
      and_from (plan_known p v) (plan_known p w) (plan_held v a.0) (plan_held w a.1)
  plan_held (Filter es w) h =
      let a = all_parts p (terms_of_plan w) (flat_map terms_of_expression es) h in
      and_from (list_all (expression_known p) es) (plan_known p w) (expressions_held es a.1) (plan_held w a.0)
  plan_held (InGraph n w) h =
      let a = all_parts p (terms_of_place n) (terms_of_plan w) h in
      and_from (place_known p n) (plan_known p w) (place_held n a.0) (plan_held w a.1)

  name_held : (g : Option Term) → list_all p (option_to_list g) ≡ true → option_known p g ≡ true
  name_held None h = refl
  name_held (Some g) h = (and_parts (p g) true h).0

  target_held : (t : Target Term) → list_all p (terms_of_target t) ≡ true → target_known p t ≡ true
  target_held (target.Graph g) h = (and_parts (p g) true h).0
  target_held target.Default h = refl
  target_held target.Named h = refl
  target_held target.All h = refl

  graphs_held : (o : GraphOperation Term) → list_all p (terms_of_graphs o) ≡ true → graphs_known p o ≡ true
  graphs_held (graphs.Create g) h = (and_parts (p g) true h).0
  graphs_held (graphs.Drop t) h = target_held t h
  graphs_held (graphs.Clear t) h = target_held t h
  graphs_held (graphs.Transfer how from to) h =
      let a = all_parts p (option_to_list from) (option_to_list to) h in
      and_from (option_known p from) (option_known p to) (name_held from a.0) (name_held to a.1)

  operation_held : (o : Operation Term) → list_all p (terms_of_operation o) ≡ true → operation_known p o ≡ true
  operation_held (operation.Modify m) h =
      let a = all_parts p ((option_to_list m.active ++ terms_of_plan m.pattern) ++ flat_map terms_of_template m.delete) (flat_map terms_of_template m.insert) h in
      let b = all_parts p (option_to_list m.active ++ terms_of_plan m.pattern) (flat_map terms_of_template m.delete) a.0 in
      let c = all_parts p (option_to_list m.active) (terms_of_plan m.pattern) b.0 in
      and_from (option_known p m.active) (plan_known p m.pattern && (list_all (template_known p) m.delete && list_all (template_known p) m.insert)) (name_held m.active c.0)
      (and_from (plan_known p m.pattern) (list_all (template_known p) m.delete && list_all (template_known p) m.insert) (plan_held m.pattern c.1)
      (and_from (list_all (template_known p) m.delete) (list_all (template_known p) m.insert)
      (spread_parts terms_of_template (template_known p) template_held m.delete b.1) (spread_parts terms_of_template (template_known p) template_held m.insert a.1)))
  operation_held (operation.Graphs silent op) h = graphs_held op h

  request_held : (r : Request Term) → list_all p (terms_of_request r) ≡ true → request_known p r ≡ true
  request_held (Ok operations) h = spread_parts terms_of_operation (operation_known p) operation_held operations h
  request_held (Err refusal) h = refl

  pub block_held : (block : List (Request Term)) → list_all p (terms_of block) ≡ true → list_all (request_known p) block ≡ true
  block_held block h = spread_parts terms_of_request (request_known p) request_held block h
