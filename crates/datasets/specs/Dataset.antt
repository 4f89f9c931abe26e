-- Datasets (RDF 1.1 Concepts, section 4), and what is told of them. A graph name or nothing stands
-- for a graph: nothing is the default graph.
use Rattle.std.specs.Prelude.{◌≡◌, Bool, true, ◌&&◌, ◌||◌, List, Option, Some, None, filter, filter_map}
use Rattle.std.specs.declared.cmp.Ordering.{Ordering}
use Rattle.std.specs.Ordering.{eq_by_cmp, ordering_then}
use Rattle.std.specs.Option.{option_cmp}
use Rattle.std.specs.List.{list_any}
use Rattle.std.specs.List.Sorted.{IsStrictlySortedBy}
use Rattle.sets.specs.Sets.{has, union, without}
use Rattle.datasets.specs.declared.quad.Quad.{Quad}
use Rattle.datasets.specs.declared.read.GraphPlace.{GraphPlace}
use Rattle.datasets.specs.declared.read.GraphPlace.TheVariants.{Any, Only}
use Rattle.datasets.specs.declared.read.QuadPattern.{QuadPattern}
use Rattle.datasets.specs.declared.read.Read.{Read}
use Rattle.datasets.specs.declared.read.Read.TheVariants.{Scan, GraphIs, Graphs}
use Rattle.datasets.specs.declared.read.Answer.{Answer}
use Rattle.datasets.specs.declared.read.Answer.TheVariants as answer

-- a set of quads and a set of graph names
pub record Dataset (K : Type 0) : Type 0 where
  pub quads : List (Quad K)
  pub names : List K

-- a change: quads that come to be present or absent, and graphs that come to be there or gone
pub record Change (K : Type 0) : Type 0 where
  pub present : List (Quad K)
  pub absent : List (Quad K)
  pub there : List K
  pub gone : List K

-- what a dataset tells
pub data Told (K : Type 0) : Type 0 where
  Quads : (quads : List (Quad K)) → Told K
  Is : (so : Bool) → Told K
  Names : (names : List K) → Told K

abbrev pub told : {K : Type 0} → Answer K → Told K
told (answer.Quads qs) = Quads qs.items
told (answer.Is b) = Is b
told (answer.Names ns) = Names ns.items

-- the graph of a quad, by name
abbrev pub graph_name : {K : Type 0} → Quad K → Option K
graph_name q = q.graph

-- the graph names among these
abbrev pub names_of : {K : Type 0} → List (Quad K) → List K
names_of qs = filter_map graph_name qs

module _ {K : Type 0} (R : K → K → Ordering) where
  abbrev pub same_graph : Option K → Option K → Bool
  same_graph g h = eq_by_cmp (option_cmp R) g h

  -- by subject, predicate, object and graph
  abbrev pub quad_order : Quad K → Quad K → Ordering
  quad_order a b =
      ordering_then (R a.subject b.subject)
      (ordering_then (R a.predicate b.predicate)
      (ordering_then (R a.object b.object) (option_cmp R a.graph b.graph)))

  pub record IsDataset (d : Dataset K) : Type 0 where
    pub quads : IsStrictlySortedBy quad_order d.quads
    pub names : IsStrictlySortedBy R d.names
    pub named : (g : K) → has R (names_of d.quads) g ≡ true → has R d.names g ≡ true

  -- the quads of a graph
  abbrev pub quads_in : Option K → List (Quad K) → List (Quad K)
  quads_in g qs = filter (λ q. same_graph q.graph g) qs

  -- whether a graph is there: the default graph always is
  abbrev pub is_there : Dataset K → Option K → Bool
  is_there d None = true
  is_there d (Some g) = has R d.names g

  abbrev pub free_or : Option K → K → Bool
  free_or None x = true
  free_or (Some y) x = eq_by_cmp R x y

  abbrev pub in_place : GraphPlace K → Option K → Bool
  in_place Any g = true
  in_place (Only h) g = same_graph g h

  abbrev pub matches : QuadPattern K → Quad K → Bool
  matches p q =
      free_or p.subject q.subject && (free_or p.predicate q.predicate && (free_or p.object q.object && in_place p.graph q.graph))

  -- what a dataset tells of a question
  abbrev pub says : Read K → Dataset K → Told K
  says (Scan p) d = Quads (filter (matches p) d.quads)
  says (GraphIs g) d = Is (has R d.names g)
  says Graphs d = Names d.names

  abbrev pub apply : Change K → Dataset K → Dataset K
  apply c d = record {
    quads = union quad_order (without quad_order d.quads c.absent) c.present;
    names = union R (without R d.names c.gone) c.there;
  }

  -- whether a change speaks of what a question asks for
  abbrev pub covers : Change K → Read K → Bool
  covers c (Scan p) = list_any (matches p) c.present || list_any (matches p) c.absent
  covers c (GraphIs g) = has R c.there g || has R c.gone g
  covers c Graphs = list_any (λ g. true) c.there || list_any (λ g. true) c.gone
