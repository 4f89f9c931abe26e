-- What notes tell of whole graphs.
use Rattle.std.specs.Prelude.{◌≡◌, Bool, true, false, ◌&&◌, ◌||◌, List, [], Option, Some, None, is_none, filter_map, if◌then◌else◌}
use Rattle.sets.specs.Sets.{has}
use Rattle.datasets.specs.declared.id.Id.{Id}
use Rattle.datasets.specs.declared.quad.Quad.{Quad}
use Rattle.datasets.specs.declared.read.GraphPlace.{GraphPlace}
use Rattle.datasets.specs.declared.read.GraphPlace.TheVariants.{Any, Only}
use Rattle.datasets.specs.declared.read.QuadPattern.{QuadPattern}
use Rattle.datasets.specs.declared.read.Read.TheVariants.{Scan, GraphIs, Graphs}
use Rattle.datasets.specs.Dataset.{quad_order}
use Rattle.datasets.specs.Id.{id_order}
use Rattle.reads.specs.Reads.{View, Read, Answer, told_quads}
use Rattle.reads.specs.declared.note.Note.{Note}

-- whether a pattern asks for each quad of its graph place
abbrev pub is_whole : QuadPattern Id → Bool
is_whole p = is_none p.subject && (is_none p.predicate && is_none p.object)

-- the graph place of which a read asks for each quad, if it does so
abbrev pub whole_place : Read → Option (GraphPlace Id)
whole_place (Scan p) = if is_whole p then Some p.graph else None
whole_place (GraphIs g) = None
whole_place Graphs = None

abbrev pub places_told : List Note → List (GraphPlace Id)
places_told notes = filter_map (λ n. whole_place n.read) notes

-- the quads of an answer to a scan, where a place is asked for
abbrev pub told_at : Option (GraphPlace Id) → Option (List (Quad Id)) → List (Quad Id)
told_at None quads = []
told_at (Some place) None = []
told_at (Some place) (Some quads) = quads

-- the quads that are told of a whole graph place
abbrev pub quads_told : Read → Answer → List (Quad Id)
quads_told r a = told_at (whole_place r) (told_quads a)

abbrev pub is_any : GraphPlace Id → Bool
is_any Any = true
is_any (Only g) = false

abbrev pub is_default : GraphPlace Id → Bool
is_default Any = false
is_default (Only g) = is_none g

abbrev pub name_at : GraphPlace Id → Option Id
name_at Any = None
name_at (Only g) = g

-- all graphs, the default graph and the named graphs of which each quad was told, and these quads
pub record WholeGraphs : Type 0 where
  pub is_all : Bool
  pub has_default : Bool
  pub names : List Id
  pub quads : List (Quad Id)

-- whether each quad of a graph was told
abbrev pub is_known : WholeGraphs → Option Id → Bool
is_known w None = w.is_all || w.has_default
is_known w (Some g) = w.is_all || has id_order w.names g

-- whether a quad is there, where each of its graph was told
abbrev pub told_in : WholeGraphs → Quad Id → Option Bool
told_in w q = if is_known w q.graph then Some (has (quad_order id_order) w.quads q) else None

-- what was told of a graph that is known is what there is
abbrev pub KnowsWhole : WholeGraphs → View → Type 0
KnowsWhole w d = (q : Quad Id) → is_known w q.graph ≡ true → has (quad_order id_order) w.quads q ≡ has (quad_order id_order) d.quads q
