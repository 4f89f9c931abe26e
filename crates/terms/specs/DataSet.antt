-- Datasets of terms (RDF 1.1 Concepts, section 4): a set of quads, and a set of graph names with
-- the name of each quad's graph. A named graph may be empty.
use Rattle.std.specs.Prelude.{◌≡◌, Bool, false, List, [], ◌∷◌, ◌++◌, Option, Some, None}
use Rattle.std.specs.Option.{option_to_list}
use Rattle.std.specs.Ordering.{eq_by_cmp}
use Rattle.sets.specs.Sets.{set_of, with, union}
use Rattle.datasets.specs.declared.quad.Quad.{Quad}
use Rattle.datasets.specs.Dataset.{Dataset, quad_order}
use Rattle.terms.specs.declared.term.Term.{Term}
use Rattle.terms.specs.Term.{term_order}

-- a quad's graph has this name
abbrev pub is_named : Term → Option Term → Bool
is_named g None = false
is_named g (Some n) = eq_by_cmp term_order g n

abbrev pub in_named : Term → Quad Term → Bool
in_named g q = is_named g q.graph

-- the dataset of these quads and names
abbrev pub dataset_of : List (Quad Term) → List Term → Dataset Term
dataset_of quads names = record { quads = set_of (quad_order term_order) quads; names = set_of term_order names }

abbrev pub with_name : Option Term → List Term → List Term
with_name None names = names
with_name (Some g) names = with term_order g names

-- the dataset with one more quad, and with the name of its graph
abbrev pub with_quad : Quad Term → Dataset Term → Dataset Term
with_quad q d = record { quads = with (quad_order term_order) q d.quads; names = with_name q.graph d.names }

-- the dataset with one more graph
abbrev pub with_graph : Term → Dataset Term → Dataset Term
with_graph g d = record d { names = with term_order g d.names }

-- the law of adding: lists with one more are the dataset with one more
abbrev pub ListsGrowAsDatasets : Type 0
ListsGrowAsDatasets = (quads : List (Quad Term)) (names : List Term) (q : Quad Term) → dataset_of (quads ++ q ∷ []) (names ++ option_to_list q.graph) ≡ with_quad q (dataset_of quads names)

-- the quads of both datasets, and the graphs of both
abbrev pub united : Dataset Term → Dataset Term → Dataset Term
united d e = record { quads = union (quad_order term_order) d.quads e.quads; names = union term_order d.names e.names }

-- the law of uniting: lists, one behind the other, are both their datasets
abbrev pub ListsUnite : Type 0
ListsUnite = (quads quads' : List (Quad Term)) (names names' : List Term) → dataset_of (quads ++ quads') (names ++ names') ≡ united (dataset_of quads names) (dataset_of quads' names')
