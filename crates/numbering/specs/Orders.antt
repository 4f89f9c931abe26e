-- Which orders of a base the scans of a block's requests are looked for in.
--     HasOrders block orders    the order that begins with a scan's bound places is SPOG or one of these, for each scan of the block
-- A template's scan, made in place of very many questions, is none of these scans.
use Rattle.std.specs.Prelude.{◌≡◌, Bool, true, false, ◌&&◌, ◌||◌, List, ◌∷◌, Option, is_none, is_some, Ok, Err}
use Rattle.std.specs.List.{list_any, Contains}
use Rattle.datasets.specs.declared.id.Id.{Id}
use Rattle.datasets.specs.declared.read.GraphPlace.{GraphPlace}
use Rattle.datasets.specs.declared.read.GraphPlace.TheVariants.{Any, Only}
use Rattle.datasets.specs.declared.read.QuadPattern.{QuadPattern}
use Rattle.algebra.specs.declared.pattern.Place.{Place}
use Rattle.algebra.specs.declared.pattern.Place.TheVariants as place
use Rattle.algebra.specs.declared.pattern.TriplePattern.{TriplePattern}
use Rattle.algebra.specs.Plans.{Plan, Basic, Join, LeftJoin, Union, Minus, Filter, InGraph}
use Rattle.algebra.specs.declared.update.GraphOperation.{GraphOperation}
use Rattle.algebra.specs.declared.update.GraphOperation.TheVariants as graphs
use Rattle.algebra.specs.declared.update.Operation.{Operation}
use Rattle.algebra.specs.declared.update.Operation.TheVariants as operation
use Rattle.meaning.specs.Run.{Request}
use Rattle.quad_lists.specs.Keys.{arrangement_for}
use Rattle.quad_lists.specs.declared.key.Arrangement.{Arrangement}
use Rattle.quad_lists.specs.declared.key.Arrangement.TheVariants.{Spog}
use Rattle.terms.specs.declared.term.Term.{Term}

-- bound where a term is written, and free where a variable is
abbrev pub is_bound_by : Place Term → Option Id → Bool
is_bound_by (place.Term t) x = is_some x
is_bound_by (place.Variable v) x = is_none x

abbrev pub is_one_graph : GraphPlace Id → Bool
is_one_graph Any = false
is_one_graph (Only g) = true

-- the scan of a graph for a triple pattern
abbrev pub is_scan_for : TriplePattern Term → QuadPattern Id → Bool
is_scan_for t p = is_bound_by t.subject p.subject && (is_bound_by t.predicate p.predicate && (is_bound_by t.object p.object && is_one_graph p.graph))

-- one for a triple pattern of a graph pattern
abbrev pub is_scan_of : Plan Term → QuadPattern Id → Bool
is_scan_of (Basic ts) p = list_any (λ t. is_scan_for t p) ts
is_scan_of (Join a b) p = is_scan_of a p || is_scan_of b p
is_scan_of (LeftJoin a b es) p = is_scan_of a p || is_scan_of b p
is_scan_of (Union a b) p = is_scan_of a p || is_scan_of b p
is_scan_of (Minus a b) p = is_scan_of a p || is_scan_of b p
is_scan_of (Filter es a) p = is_scan_of a p
is_scan_of (InGraph n a) p = is_scan_of a p

-- the question for one quad
abbrev pub is_question : QuadPattern Id → Bool
is_question p = is_some p.subject && (is_some p.predicate && (is_some p.object && is_one_graph p.graph))

-- the scan of a whole graph, or of all quads
abbrev pub is_whole : QuadPattern Id → Bool
is_whole p = is_none p.subject && (is_none p.predicate && is_none p.object)

abbrev pub is_graph_scan : GraphOperation Term → QuadPattern Id → Bool
is_graph_scan (graphs.Create g) p = false
is_graph_scan (graphs.Drop t) p = is_whole p
is_graph_scan (graphs.Clear t) p = is_whole p
is_graph_scan (graphs.Transfer how from to) p = is_whole p

abbrev pub is_operation_scan : Operation Term → QuadPattern Id → Bool
is_operation_scan (operation.Modify m) p = is_question p || is_scan_of m.pattern p
is_operation_scan (operation.Graphs silent op) p = is_question p || is_graph_scan op p

abbrev pub is_request_scan : Request Term → QuadPattern Id → Bool
is_request_scan (Ok operations) p = list_any (λ op. is_operation_scan op p) operations
is_request_scan (Err kind) p = false

abbrev pub HasOrders : List (Request Term) → List Arrangement → Type 0
HasOrders block orders = (p : QuadPattern Id) → list_any (λ r. is_request_scan r p) block ≡ true → Contains (Spog ∷ orders) (arrangement_for p)
