-- Whole graphs: which of them an operation names, and what of them goes (SPARQL 1.1 Update, 3.2).
use Rattle.std.specs.Prelude.{Bool, true, List, [], ◌∷◌, ◌++◌, Option, Some, None, is_some, is_none, filter}
use Rattle.sets.specs.Sets.{has}
use Rattle.datasets.specs.declared.id.Id.{Id}
use Rattle.datasets.specs.declared.quad.Quad.{Quad}
use Rattle.datasets.specs.declared.read.GraphPlace.{GraphPlace}
use Rattle.datasets.specs.declared.read.GraphPlace.TheVariants.{Any, Only}
use Rattle.datasets.specs.declared.read.QuadPattern.{QuadPattern}
use Rattle.datasets.specs.Dataset.{same_graph}
use Rattle.datasets.specs.Id.{id_order}
use Rattle.algebra.specs.declared.update.Target.{Target}
use Rattle.algebra.specs.declared.update.Target.TheVariants as target
use Rattle.algebra.specs.declared.update.Transfer.{Transfer}
use Rattle.algebra.specs.declared.update.Transfer.TheVariants as transfer
use Rattle.reads.specs.Reads.{View}

-- a graph, as DROP and CLEAR name it
abbrev pub target_of : Option Id → Target Id
target_of None = target.Default
target_of (Some g) = target.Graph g

-- whether a graph is one of those that are named
abbrev pub is_among : Target Id → Option Id → Bool
is_among (target.Graph g) h = same_graph id_order h (Some g)
is_among target.Default h = is_none h
is_among target.Named h = is_some h
is_among target.All h = true

-- the quads of the graphs that are named
abbrev pub quads_of : Target Id → List (Quad Id) → List (Quad Id)
quads_of t quads = filter (λ q. is_among t q.graph) quads

-- the names of the graphs that are named, where these graphs are there
abbrev pub names_of : Target Id → List Id → List Id
names_of (target.Graph g) names = g ∷ []
names_of target.Default names = []
names_of target.Named names = names
names_of target.All names = names

-- whether the graph that is named is there: only one that is named by itself may be missing
abbrev pub is_target_there : View → Target Id → Bool
is_target_there d (target.Graph g) = has id_order d.names g
is_target_there d target.Default = true
is_target_there d target.Named = true
is_target_there d target.All = true

-- the graph place of a scan that tells of all these quads
abbrev pub place_of : Target Id → GraphPlace Id
place_of (target.Graph g) = Only (Some g)
place_of target.Default = Only None
place_of target.Named = Any
place_of target.All = Any

-- each quad of a place
abbrev pub whole : GraphPlace Id → QuadPattern Id
whole place = record { subject = None; predicate = None; object = None; graph = place }

-- the name of a graph, if it has one
abbrev pub name_list : Option Id → List Id
name_list None = []
name_list (Some g) = g ∷ []

-- the quads that go where those of one graph, which were found, come to the place of others: ADD
-- keeps all
abbrev pub leaving : Transfer → (found others : List (Quad Id)) → List (Quad Id)
leaving transfer.Add found others = []
leaving transfer.Copy found others = others
leaving transfer.Move found others = found ++ others

-- the name that goes with them
abbrev pub name_leaving : Transfer → Option Id → List Id
name_leaving transfer.Add from = []
name_leaving transfer.Copy from = []
name_leaving transfer.Move from = name_list from
