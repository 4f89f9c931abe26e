-- Tests for equal lists, answers and reads at numbers of terms.
use Rattle.std.specs.Prelude.{Bool, true, false, not, ◌&&◌, List, [], ◌∷◌}
use Rattle.std.specs.Ordering.{eq_by_cmp}
use Rattle.datasets.specs.declared.id.Id.{Id}
use Rattle.datasets.specs.declared.quad.Quad.{Quad}
use Rattle.datasets.specs.declared.read.GraphPlace.{GraphPlace}
use Rattle.datasets.specs.declared.read.GraphPlace.TheVariants.{Any, Only}
use Rattle.datasets.specs.declared.read.QuadPattern.{QuadPattern}
use Rattle.datasets.specs.declared.read.Read.TheVariants.{Scan, GraphIs, Graphs}
use Rattle.datasets.specs.Dataset.{Quads, Is, Names, quad_order, same_graph}
use Rattle.datasets.specs.Id.{id_order}
use Rattle.reads.specs.Reads.{Read, Answer}

abbrev pub list_eq : {A : Type 0} → (A → A → Bool) → List A → List A → Bool
list_eq eq [] [] = true
list_eq eq (x ∷ xs) (y ∷ ys) = eq x y && list_eq eq xs ys
list_eq eq [] (y ∷ ys) = false
list_eq eq (x ∷ xs) [] = false

abbrev pub bool_eq : Bool → Bool → Bool
bool_eq true b = b
bool_eq false b = not b

abbrev pub quads_eq : List (Quad Id) → List (Quad Id) → Bool
quads_eq a b = list_eq (eq_by_cmp (quad_order id_order)) a b

abbrev pub names_eq : List Id → List Id → Bool
names_eq a b = list_eq (eq_by_cmp id_order) a b

abbrev pub answer_eq : Answer → Answer → Bool
answer_eq (Quads a) (Quads b) = quads_eq a b
answer_eq (Is a) (Is b) = bool_eq a b
answer_eq (Names a) (Names b) = names_eq a b
answer_eq _ _ = false

abbrev pub graph_place_eq : GraphPlace Id → GraphPlace Id → Bool
graph_place_eq Any Any = true
graph_place_eq (Only a) (Only b) = same_graph id_order a b
graph_place_eq _ _ = false

abbrev pub pattern_eq : QuadPattern Id → QuadPattern Id → Bool
pattern_eq a b =
    same_graph id_order a.subject b.subject
    && (same_graph id_order a.predicate b.predicate && (same_graph id_order a.object b.object && graph_place_eq a.graph b.graph))

abbrev pub read_eq : Read → Read → Bool
read_eq (Scan a) (Scan b) = pattern_eq a b
read_eq (GraphIs a) (GraphIs b) = eq_by_cmp id_order a b
read_eq Graphs Graphs = true
read_eq _ _ = false
