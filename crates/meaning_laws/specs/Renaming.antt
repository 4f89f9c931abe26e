-- Renaming terms, in quads, datasets and requests.
use Rattle.std.specs.Prelude.{◌≡◌, ℕ, Bool, true, ◌&&◌, List, Option, Some, None, Ok, Err, map}
use Rattle.std.specs.List.{list_all}
use Rattle.std.specs.Option.{option_map}
use Rattle.datasets.specs.Dataset.{Dataset}
use Rattle.datasets.specs.declared.quad.Quad.{Quad}
use Rattle.meaning.specs.Vocabulary.{Vocabulary}
use Rattle.meaning.specs.Run.{Request, run}
use Rattle.algebra.specs.declared.template.Slot.{Slot}
use Rattle.algebra.specs.declared.template.Slot.TheVariants.{Term, Variable, Label}
use Rattle.algebra.specs.declared.template.QuadTemplate.{QuadTemplate}
use Rattle.algebra.specs.declared.pattern.Place.{Place}
use Rattle.algebra.specs.declared.pattern.Place.TheVariants as place
use Rattle.algebra.specs.declared.pattern.TriplePattern.{TriplePattern}
use Rattle.algebra.specs.Expressions as expression
use Rattle.algebra.specs.Expressions.{Expression}
use Rattle.algebra.specs.Plans.{Plan, Basic, Join, LeftJoin, Union, Minus, Filter, InGraph}
use Rattle.meaning.specs.Mapping.{Mapping}
use Rattle.algebra.specs.declared.update.Target.{Target}
use Rattle.algebra.specs.declared.update.Target.TheVariants as target
use Rattle.algebra.specs.declared.update.GraphOperation.{GraphOperation}
use Rattle.algebra.specs.declared.update.GraphOperation.TheVariants as graphs
use Rattle.algebra.specs.declared.update.Operation.{Operation}
use Rattle.algebra.specs.declared.update.Operation.TheVariants as operation

module _ {A B : Type 0} (f : A → B) where
  abbrev pub renamed_quad : Quad A → Quad B
  renamed_quad q = record { subject = f q.subject; predicate = f q.predicate; object = f q.object; graph = option_map f q.graph }

  abbrev pub renamed : Dataset A → Dataset B
  renamed d = record { quads = map renamed_quad d.quads; names = map f d.names }

  abbrev pub renamed_slot : Slot A → Slot B
  renamed_slot (Term t) = Term (f t)
  renamed_slot (Variable v) = Variable v
  renamed_slot (Label l) = Label l

  abbrev pub renamed_template : QuadTemplate A → QuadTemplate B
  renamed_template t = record {
    subject = renamed_slot t.subject;
    predicate = renamed_slot t.predicate;
    object = renamed_slot t.object;
    graph = option_map renamed_slot t.graph;
  }

  abbrev pub renamed_place : Place A → Place B
  renamed_place (place.Term t) = place.Term (f t)
  renamed_place (place.Variable v) = place.Variable v

  abbrev pub renamed_pattern : TriplePattern A → TriplePattern B
  renamed_pattern t = record { subject = renamed_place t.subject; predicate = renamed_place t.predicate; object = renamed_place t.object }

  abbrev pub renamed_expression : Expression A → Expression B
  renamed_expression (expression.Constant t) = expression.Constant (f t)
  renamed_expression (expression.Variable v) = expression.Variable v
  renamed_expression (expression.Bound v) = expression.Bound v
  renamed_expression (expression.One o e) = expression.One o (renamed_expression e)
  renamed_expression (expression.Two o e e') = expression.Two o (renamed_expression e) (renamed_expression e')

  abbrev pub renamed_plan : Plan A → Plan B
  renamed_plan (Basic ts) = Basic (map renamed_pattern ts)
  renamed_plan (Join p q) = Join (renamed_plan p) (renamed_plan q)
  renamed_plan (LeftJoin p q es) = LeftJoin (renamed_plan p) (renamed_plan q) (map renamed_expression es)
  renamed_plan (Union p q) = Union (renamed_plan p) (renamed_plan q)
  renamed_plan (Minus p q) = Minus (renamed_plan p) (renamed_plan q)
  renamed_plan (Filter es p) = Filter (map renamed_expression es) (renamed_plan p)
  renamed_plan (InGraph n p) = InGraph (renamed_place n) (renamed_plan p)

  abbrev pub renamed_mapping : Mapping A → Mapping B
  renamed_mapping m = map (option_map f) m

  abbrev pub renamed_target : Target A → Target B
  renamed_target (target.Graph g) = target.Graph (f g)
  renamed_target target.Default = target.Default
  renamed_target target.Named = target.Named
  renamed_target target.All = target.All

  abbrev pub renamed_graphs : GraphOperation A → GraphOperation B
  renamed_graphs (graphs.Create g) = graphs.Create (f g)
  renamed_graphs (graphs.Drop t) = graphs.Drop (renamed_target t)
  renamed_graphs (graphs.Clear t) = graphs.Clear (renamed_target t)
  renamed_graphs (graphs.Transfer how from to) = graphs.Transfer how (option_map f from) (option_map f to)

  abbrev pub renamed_operation : Operation A → Operation B
  renamed_operation (operation.Modify m) = operation.Modify (record {
    width = m.width;
    active = option_map f m.active;
    pattern = renamed_plan m.pattern;
    delete = map renamed_template m.delete;
    insert = map renamed_template m.insert;
  })
  renamed_operation (operation.Graphs silent op) = operation.Graphs silent (renamed_graphs op)

  abbrev pub renamed_request : Request A → Request B
  renamed_request (Ok operations) = Ok (map renamed_operation operations)
  renamed_request (Err refusal) = Err refusal

-- whether all terms are among those that are renamed
module _ {A : Type 0} (known : A → Bool) where
  abbrev pub option_known : Option A → Bool
  option_known None = true
  option_known (Some x) = known x

  abbrev pub quad_known : Quad A → Bool
  quad_known q = known q.subject && (known q.predicate && (known q.object && option_known q.graph))

  abbrev pub dataset_known : Dataset A → Bool
  dataset_known d = list_all quad_known d.quads && list_all known d.names

  abbrev pub slot_known : Slot A → Bool
  slot_known (Term t) = known t
  slot_known (Variable v) = true
  slot_known (Label l) = true

  abbrev pub graph_known : Option (Slot A) → Bool
  graph_known None = true
  graph_known (Some g) = slot_known g

  abbrev pub template_known : QuadTemplate A → Bool
  template_known t = slot_known t.subject && (slot_known t.predicate && (slot_known t.object && graph_known t.graph))

  abbrev pub place_known : Place A → Bool
  place_known (place.Term t) = known t
  place_known (place.Variable v) = true

  abbrev pub pattern_known : TriplePattern A → Bool
  pattern_known t = place_known t.subject && (place_known t.predicate && place_known t.object)

  abbrev pub expression_known : Expression A → Bool
  expression_known (expression.Constant t) = known t
  expression_known (expression.Variable v) = true
  expression_known (expression.Bound v) = true
  expression_known (expression.One o e) = expression_known e
  expression_known (expression.Two o e f) = expression_known e && expression_known f

  abbrev pub plan_known : Plan A → Bool
  plan_known (Basic ts) = list_all pattern_known ts
  plan_known (Join p q) = plan_known p && plan_known q
  plan_known (LeftJoin p q es) = plan_known p && (plan_known q && list_all expression_known es)
  plan_known (Union p q) = plan_known p && plan_known q
  plan_known (Minus p q) = plan_known p && plan_known q
  plan_known (Filter es p) = list_all expression_known es && plan_known p
  plan_known (InGraph n p) = place_known n && plan_known p

  abbrev pub mapping_known : Mapping A → Bool
  mapping_known m = list_all option_known m

  abbrev pub target_known : Target A → Bool
  target_known (target.Graph g) = known g
  target_known target.Default = true
  target_known target.Named = true
  target_known target.All = true

  abbrev pub graphs_known : GraphOperation A → Bool
  graphs_known (graphs.Create g) = known g
  graphs_known (graphs.Drop t) = target_known t
  graphs_known (graphs.Clear t) = target_known t
  graphs_known (graphs.Transfer how from to) = option_known from && option_known to

  abbrev pub operation_known : Operation A → Bool
  operation_known (operation.Modify m) =
      option_known m.active && (plan_known m.pattern && (list_all template_known m.delete && list_all template_known m.insert))
  operation_known (operation.Graphs silent op) = graphs_known op

  abbrev pub request_known : Request A → Bool
  request_known (Ok operations) = list_all operation_known operations
  request_known (Err refusal) = true

-- the renaming keeps the order and the kinds of the known terms and what passes a filter, and takes
-- made nodes, which are known, to made nodes
pub record IsRenaming {A B : Type 0} (V : Vocabulary A) (W : Vocabulary B) (f : A → B) (known : A → Bool) : Type 0 where
  pub order : (x y : A) → known x ≡ true → known y ≡ true → W.order (f x) (f y) ≡ V.order x y
  pub iris : (x : A) → known x ≡ true → W.is_iri (f x) ≡ V.is_iri x
  pub literals : (x : A) → known x ≡ true → W.is_literal (f x) ≡ V.is_literal x
  pub nodes : (request operation label rank : ℕ) → f (V.made request operation label rank) ≡ W.made request operation label rank
  pub nodes_known : (request operation label rank : ℕ) → known (V.made request operation label rank) ≡ true
  pub passes : (e : Expression A) (m : Mapping A) → expression_known known e ≡ true → mapping_known known m ≡ true
      → W.passes (renamed_expression f e) (renamed_mapping f m) ≡ V.passes e m

-- the run of a renamed block on a renamed dataset is the renamed run, with the same replies, and
-- its terms are known
pub record IsRenamedRun {A B : Type 0} (V : Vocabulary A) (W : Vocabulary B) (f : A → B) (known : A → Bool) (requests : List (Request A)) (d : Dataset A) : Type 0 where
  pub dataset : renamed f (run V requests d).0 ≡ (run W (map (renamed_request f) requests) (renamed f d)).0
  pub replies : (run V requests d).1 ≡ (run W (map (renamed_request f) requests) (renamed f d)).1
  pub known_after : dataset_known known (run V requests d).0 ≡ true

abbrev pub CarriesRun : Type 0 → Type 0 → Type 0
CarriesRun A B =
    (V : Vocabulary A) (W : Vocabulary B) (f : A → B) (known : A → Bool) (requests : List (Request A)) (d : Dataset A)
    → IsRenaming V W f known → list_all (request_known known) requests ≡ true → dataset_known known d ≡ true
    → IsRenamedRun V W f known requests d
