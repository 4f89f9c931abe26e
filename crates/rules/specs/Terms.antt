-- The terms of requests.
use Rattle.std.specs.Prelude.{List, [], ◌∷◌, ◌++◌, Option, Some, None, Result, Ok, Err}
use Rattle.std.specs.List.{flat_map}
use Rattle.std.specs.Option.{option_to_list}
use Rattle.terms.specs.declared.term.Term.{Term}
use Rattle.algebra.specs.declared.template.Slot.{Slot}
use Rattle.algebra.specs.declared.template.Slot.TheVariants as slot
use Rattle.algebra.specs.declared.template.QuadTemplate.{QuadTemplate}
use Rattle.algebra.specs.declared.pattern.Place.{Place}
use Rattle.algebra.specs.declared.pattern.Place.TheVariants as place
use Rattle.algebra.specs.declared.pattern.TriplePattern.{TriplePattern}
use Rattle.algebra.specs.Expressions as expression
use Rattle.algebra.specs.Expressions.{Expression}
use Rattle.algebra.specs.Plans.{Plan, Basic, Join, LeftJoin, Union, Minus, Filter, InGraph}
use Rattle.algebra.specs.declared.update.Target.{Target}
use Rattle.algebra.specs.declared.update.Target.TheVariants as target
use Rattle.algebra.specs.declared.update.GraphOperation.{GraphOperation}
use Rattle.algebra.specs.declared.update.GraphOperation.TheVariants as graphs
use Rattle.algebra.specs.declared.update.Operation.{Operation}
use Rattle.algebra.specs.declared.update.Operation.TheVariants as update
use Rattle.meaning.specs.declared.reply.Refusal.{Refusal}

abbrev pub terms_of_slot : Slot Term → List Term
terms_of_slot (slot.Term t) = t ∷ []
terms_of_slot (slot.Variable v) = []
terms_of_slot (slot.Label l) = []

abbrev pub terms_of_graph : Option (Slot Term) → List Term
terms_of_graph None = []
terms_of_graph (Some s) = terms_of_slot s

abbrev pub terms_of_quad : QuadTemplate Term → List Term
terms_of_quad q = terms_of_slot q.subject ++ terms_of_slot q.predicate ++ terms_of_slot q.object ++ terms_of_graph q.graph

abbrev pub terms_of_place : Place Term → List Term
terms_of_place (place.Term t) = t ∷ []
terms_of_place (place.Variable v) = []

abbrev pub terms_of_pattern : TriplePattern Term → List Term
terms_of_pattern t = terms_of_place t.subject ++ terms_of_place t.predicate ++ terms_of_place t.object

abbrev pub terms_of_expression : Expression Term → List Term
terms_of_expression (expression.Constant t) = t ∷ []
terms_of_expression (expression.Variable v) = []
terms_of_expression (expression.Bound v) = []
terms_of_expression (expression.One o e) = terms_of_expression e
terms_of_expression (expression.Two o e f) = terms_of_expression e ++ terms_of_expression f

abbrev pub terms_of_plan : Plan Term → List Term
terms_of_plan (Basic ts) = flat_map terms_of_pattern ts
terms_of_plan (Join a b) = terms_of_plan a ++ terms_of_plan b
terms_of_plan (LeftJoin a b es) = terms_of_plan a ++ terms_of_plan b ++ flat_map terms_of_expression es
terms_of_plan (Union a b) = terms_of_plan a ++ terms_of_plan b
terms_of_plan (Minus a b) = terms_of_plan a ++ terms_of_plan b
terms_of_plan (Filter es a) = terms_of_plan a ++ flat_map terms_of_expression es
terms_of_plan (InGraph n a) = terms_of_place n ++ terms_of_plan a

abbrev pub terms_of_target : Target Term → List Term
terms_of_target (target.Graph g) = g ∷ []
terms_of_target target.Default = []
terms_of_target target.Named = []
terms_of_target target.All = []

abbrev pub terms_of_graphs : GraphOperation Term → List Term
terms_of_graphs (graphs.Create g) = g ∷ []
terms_of_graphs (graphs.Drop t) = terms_of_target t
terms_of_graphs (graphs.Clear t) = terms_of_target t
terms_of_graphs (graphs.Transfer how from to) = option_to_list from ++ option_to_list to

abbrev pub terms_of_operation : Operation Term → List Term
terms_of_operation (update.Modify m) =
    option_to_list m.active ++ terms_of_plan m.pattern ++ flat_map terms_of_quad m.delete ++ flat_map terms_of_quad m.insert
terms_of_operation (update.Graphs silent op) = terms_of_graphs op

-- those of an accepted request
abbrev pub terms_of_request : Result (List (Operation Term)) Refusal → List Term
terms_of_request (Ok operations) = flat_map terms_of_operation operations
terms_of_request (Err kind) = []

abbrev pub terms_of : List (Result (List (Operation Term)) Refusal) → List Term
terms_of block = flat_map terms_of_request block
