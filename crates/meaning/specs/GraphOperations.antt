-- Operations on whole graphs (SPARQL 1.1 Update, 3.2). When they fail is this project's choice
-- where the standard leaves one.
use Rattle.std.specs.Prelude.{Bool, not, List, [], ◌∷◌, Option, Some, None, Result, Ok, Err, filter, map, if◌then◌else◌}
use Rattle.std.specs.declared.cmp.Ordering.{Ordering}
use Rattle.sets.specs.Sets.{has, with, union, without}
use Rattle.datasets.specs.Dataset.{Dataset, quads_in, quad_order, same_graph, is_there}
use Rattle.datasets.specs.declared.quad.Quad.{Quad}
use Rattle.algebra.specs.declared.update.Target.TheVariants as target
use Rattle.algebra.specs.declared.update.Transfer.{Transfer}
use Rattle.algebra.specs.declared.update.Transfer.TheVariants as transfer
use Rattle.algebra.specs.declared.update.GraphOperation.{GraphOperation}
use Rattle.algebra.specs.declared.update.GraphOperation.TheVariants as graphs
use Rattle.meaning.specs.declared.reply.Cause.{Cause}
use Rattle.meaning.specs.declared.reply.Cause.TheVariants.{GraphExists, GraphMissing}

module _ {K : Type 0} (R : K → K → Ordering) where
  -- the quads outside a graph
  abbrev pub outside : Option K → List (Quad K) → List (Quad K)
  outside g quads = filter (λ q. not (same_graph R q.graph g)) quads

  abbrev pub without_name : Option K → List K → List K
  without_name None names = names
  without_name (Some g) names = without R names (g ∷ [])

  abbrev pub with_name : Option K → List K → List K
  with_name None names = names
  with_name (Some g) names = with R g names

  -- its triples go
  abbrev pub cleared : Option K → Dataset K → Dataset K
  cleared g d = record { quads = outside g d.quads; names = d.names }

  -- its triples go, and its name
  abbrev pub dropped : Option K → Dataset K → Dataset K
  dropped g d = record { quads = outside g d.quads; names = without_name g d.names }

  -- the triple, in this graph
  abbrev pub in_graph : Option K → Quad K → Quad K
  in_graph g q = record { subject = q.subject; predicate = q.predicate; object = q.object; graph = g }

  -- the triples of a graph, in another one
  abbrev pub moved_to : (from to : Option K) → Dataset K → List (Quad K)
  moved_to from to d = map (in_graph to) (quads_in R from d.quads)

  -- the triples of a graph come to another one
  abbrev pub added : (from to : Option K) → Dataset K → Dataset K
  added from to d = record { quads = union (quad_order R) d.quads (moved_to from to d); names = with_name to d.names }

  -- another graph's triples become those of a graph
  abbrev pub copied : (from to : Option K) → Dataset K → Dataset K
  copied from to d = record { quads = union (quad_order R) (outside to d.quads) (moved_to from to d); names = with_name to d.names }

  abbrev pub transferred : Transfer → (from to : Option K) → Dataset K → Dataset K
  transferred transfer.Add from to d = added from to d
  transferred transfer.Copy from to d = copied from to d
  transferred transfer.Move from to d = dropped from (copied from to d)

  -- only where the graph is there
  abbrev pub if_there : Dataset K → Option K → Dataset K → Result (Dataset K) Cause
  if_there d g e = if is_there R d g then Ok e else Err GraphMissing

  -- what an operation on graphs makes of a dataset: of two graphs that are one, nothing
  abbrev pub graphs_after : GraphOperation K → Dataset K → Result (Dataset K) Cause
  graphs_after (graphs.Create g) d = if has R d.names g then Err GraphExists else Ok (record { quads = d.quads; names = with R g d.names })
  graphs_after (graphs.Drop (target.Graph g)) d = if_there d (Some g) (dropped (Some g) d)
  graphs_after (graphs.Drop target.Default) d = Ok (cleared None d)
  graphs_after (graphs.Drop target.Named) d = Ok (record { quads = quads_in R None d.quads; names = [] })
  graphs_after (graphs.Drop target.All) d = Ok (record { quads = []; names = [] })
  graphs_after (graphs.Clear (target.Graph g)) d = if_there d (Some g) (cleared (Some g) d)
  graphs_after (graphs.Clear target.Default) d = Ok (cleared None d)
  graphs_after (graphs.Clear target.Named) d = Ok (record { quads = quads_in R None d.quads; names = d.names })
  graphs_after (graphs.Clear target.All) d = Ok (record { quads = []; names = d.names })
  graphs_after (graphs.Transfer how from to) d = if same_graph R from to then Ok d else if_there d from (transferred how from to d)

  -- with SILENT an operation that would fail changes nothing
  abbrev pub silently : Bool → Dataset K → Result (Dataset K) Cause → Result (Dataset K) Cause
  silently silent d (Ok e) = Ok e
  silently silent d (Err cause) = if silent then Ok d else Err cause
