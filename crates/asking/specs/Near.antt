-- Which reads are near a request: a run that reads only these conflicts with another only where
-- their quads meet.
use Rattle.std.specs.Prelude.{Bool, true, false, ◌&&◌, ◌||◌, List, Option, Some, None, is_none}
use Rattle.std.specs.List.{list_any}
use Rattle.std.specs.Option.{option_map, option_cmp}
use Rattle.std.specs.declared.cmp.Ordering.{Ordering}
use Rattle.std.specs.Ordering.{eq_by_cmp}
use Rattle.datasets.specs.declared.read.GraphPlace.{GraphPlace}
use Rattle.datasets.specs.declared.read.GraphPlace.TheVariants.{Any, Only}
use Rattle.datasets.specs.declared.read.QuadPattern.{QuadPattern}
use Rattle.datasets.specs.declared.read.Read.{Read}
use Rattle.datasets.specs.declared.read.Read.TheVariants.{Scan, GraphIs, Graphs}
use Rattle.algebra.specs.declared.pattern.Place.{Place}
use Rattle.algebra.specs.declared.pattern.Place.TheVariants as place
use Rattle.algebra.specs.declared.pattern.TriplePattern.{TriplePattern}
use Rattle.algebra.specs.declared.template.Slot.{Slot}
use Rattle.algebra.specs.declared.template.Slot.TheVariants as slot
use Rattle.algebra.specs.declared.template.QuadTemplate.{QuadTemplate}
use Rattle.algebra.specs.Plans.{Plan, Basic, Join, LeftJoin, Union, Minus, Filter, InGraph}
use Rattle.algebra.specs.declared.update.Target.{Target}
use Rattle.algebra.specs.declared.update.Target.TheVariants as target
use Rattle.algebra.specs.declared.update.GraphOperation.{GraphOperation}
use Rattle.algebra.specs.declared.update.GraphOperation.TheVariants as graphs
use Rattle.algebra.specs.declared.update.Operation.{Operation}
use Rattle.algebra.specs.declared.update.Operation.TheVariants as operation

-- whether all graph names may be asked for: only where a graph variable is written
abbrev pub asks_names : {K : Type 0} → Plan K → Bool
asks_names (Basic ts) = false
asks_names (Join a b) = asks_names a || asks_names b
asks_names (LeftJoin a b es) = asks_names a || asks_names b
asks_names (Union a b) = asks_names a || asks_names b
asks_names (Minus a b) = asks_names a || asks_names b
asks_names (Filter es a) = asks_names a
asks_names (InGraph (place.Term t) a) = asks_names a
asks_names (InGraph (place.Variable v) a) = true

-- whether the graph place is free
abbrev pub is_any : {K : Type 0} → GraphPlace K → Bool
is_any Any = true
is_any (Only g) = false

-- a scan of all quads: each of the four places is free
abbrev pub is_free : {K : Type 0} → QuadPattern K → Bool
is_free p = is_none p.subject && (is_none p.predicate && (is_none p.object && is_any p.graph))

-- a read for more graphs than one: the scan of all quads, or the question for all names
abbrev pub is_of_all : {K : Type 0} → Read K → Bool
is_of_all (Scan p) = is_free p
is_of_all (GraphIs g) = false
is_of_all Graphs = true

module _ {K : Type 0} (R : K → K → Ordering) where
  -- whether the name of a graph is written where the pattern goes into a graph
  abbrev pub names_graph : Plan K → K → Bool
  names_graph (Basic ts) g = false
  names_graph (Join a b) g = names_graph a g || names_graph b g
  names_graph (LeftJoin a b es) g = names_graph a g || names_graph b g
  names_graph (Union a b) g = names_graph a g || names_graph b g
  names_graph (Minus a b) g = names_graph a g || names_graph b g
  names_graph (Filter es a) g = names_graph a g
  names_graph (InGraph (place.Term t) a) g = eq_by_cmp R g t || names_graph a g
  names_graph (InGraph (place.Variable v) a) g = names_graph a g

  -- the written term; free or any term at a variable or a label
  abbrev pub is_written : Slot K → Option K → Bool
  is_written (slot.Term t) None = false
  is_written (slot.Term t) (Some x) = eq_by_cmp R x t
  is_written (slot.Variable v) x = true
  is_written (slot.Label l) x = true

  -- the graph place of a quad: nothing written is the default graph
  abbrev pub is_graph_written : Option (Slot K) → GraphPlace K → Bool
  is_graph_written None Any = false
  is_graph_written None (Only g) = is_none g
  is_graph_written (Some (slot.Term t)) Any = false
  is_graph_written (Some (slot.Term t)) (Only None) = false
  is_graph_written (Some (slot.Term t)) (Only (Some x)) = eq_by_cmp R x t
  is_graph_written (Some (slot.Variable v)) g = true
  is_graph_written (Some (slot.Label l)) g = true

  abbrev pub is_near_quad : QuadTemplate K → QuadPattern K → Bool
  is_near_quad t p =
      is_written t.subject p.subject && (is_written t.predicate p.predicate && (is_written t.object p.object && is_graph_written t.graph p.graph))

  abbrev pub slot_of : Place K → Slot K
  slot_of (place.Term t) = slot.Term t
  slot_of (place.Variable v) = slot.Variable v

  -- a triple pattern as a quad of this graph
  abbrev pub quad_of : Option (Slot K) → TriplePattern K → QuadTemplate K
  quad_of graph t = record { subject = slot_of t.subject; predicate = slot_of t.predicate; object = slot_of t.object; graph = graph }

  -- a pattern that is asked of this graph
  abbrev pub is_near_plan : Option (Slot K) → Plan K → QuadPattern K → Bool
  is_near_plan graph (Basic ts) p = list_any (λ t. is_near_quad (quad_of graph t) p) ts
  is_near_plan graph (Join a b) p = is_near_plan graph a p || is_near_plan graph b p
  is_near_plan graph (LeftJoin a b es) p = is_near_plan graph a p || is_near_plan graph b p
  is_near_plan graph (Union a b) p = is_near_plan graph a p || is_near_plan graph b p
  is_near_plan graph (Minus a b) p = is_near_plan graph a p || is_near_plan graph b p
  is_near_plan graph (Filter es a) p = is_near_plan graph a p
  is_near_plan graph (InGraph n a) p = is_near_plan (Some (slot_of n)) a p

  -- a read for a pattern: of the names of graphs one that is written, or all where a graph variable
  -- is
  abbrev pub is_for_plan : Option (Slot K) → Plan K → Read K → Bool
  is_for_plan graph plan (Scan p) = is_near_plan graph plan p
  is_for_plan graph plan (GraphIs g) = names_graph plan g
  is_for_plan graph plan Graphs = asks_names plan

  -- a read for quads that are deleted
  abbrev pub is_near_deleted : List (QuadTemplate K) → Read K → Bool
  is_near_deleted ts (Scan p) = list_any (λ t. is_near_quad t p) ts
  is_near_deleted ts (GraphIs g) = false
  is_near_deleted ts Graphs = false

  -- a read for quads that are inserted, or for the name of a graph that they may be inserted into
  abbrev pub is_near_inserted : List (QuadTemplate K) → Read K → Bool
  is_near_inserted ts (Scan p) = list_any (λ t. is_near_quad t p) ts
  is_near_inserted ts (GraphIs g) = list_any (λ t. is_graph_written t.graph (Only (Some g))) ts
  is_near_inserted ts Graphs = false

  -- ---- operations on graphs: quads and the name of a graph, or all quads and all names

  abbrev pub is_only : Option K → GraphPlace K → Bool
  is_only g Any = false
  is_only g (Only h) = eq_by_cmp (option_cmp R) h g

  abbrev pub is_of_graph : Option K → Read K → Bool
  is_of_graph g (Scan p) = is_only g p.graph
  is_of_graph g (GraphIs h) = eq_by_cmp (option_cmp R) (Some h) g
  is_of_graph g Graphs = false

  abbrev pub is_near_target : Target K → Read K → Bool
  is_near_target (target.Graph g) read = is_of_graph (Some g) read
  is_near_target target.Default read = is_of_graph None read
  is_near_target target.Named read = is_of_all read
  is_near_target target.All read = is_of_all read

  abbrev pub is_near_graphs : GraphOperation K → Read K → Bool
  is_near_graphs (graphs.Create g) read = is_of_graph (Some g) read
  is_near_graphs (graphs.Drop t) read = is_near_target t read
  is_near_graphs (graphs.Clear t) read = is_near_target t read
  is_near_graphs (graphs.Transfer how from to) read = is_of_graph from read || is_of_graph to read

  -- A scan has the written terms and the graph place of a quad or a triple pattern of the
  -- operation, or is of a graph that it names; the name of a graph is written, or inserted into, or
  -- a variable stands there.
  abbrev pub is_near : Operation K → Read K → Bool
  is_near (operation.Modify m) read =
      is_near_deleted m.delete read || (is_near_inserted m.insert read || is_for_plan (option_map slot.Term m.active) m.pattern read)
  is_near (operation.Graphs silent graphs) read = is_near_graphs graphs read

  -- a read is near one of the request's operations
  abbrev pub is_near_request : List (Operation K) → Read K → Bool
  is_near_request operations read = list_any (λ op. is_near op read) operations
