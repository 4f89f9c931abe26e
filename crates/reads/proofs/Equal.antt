-- The tests for equal lists, answers and reads are exact.
use Rattle.std.proofs.Common.{◌≡◌, Bool, true, false, ◌&&◌, List, [], ◌∷◌, Option, refl, ap}
use Rattle.std.proofs.lemmas.Bool.{and_parts, and_from}
use Rattle.std.specs.Ordering.{eq_by_cmp, is_eq}
use Rattle.std.specs.Cmp.{tied_itself}
use Rattle.std.specs.Cmp.Lexicographic.{pointwise, options_total}
use Rattle.sets.proofs.SetLaws.{exact_by}
use Rattle.datasets.specs.declared.id.Id.{Id}
use Rattle.datasets.specs.declared.quad.Quad.{Quad}
use Rattle.datasets.specs.declared.read.GraphPlace.{GraphPlace}
use Rattle.datasets.specs.declared.read.GraphPlace.TheVariants.{Any, Only}
use Rattle.datasets.specs.declared.read.QuadPattern.{QuadPattern}
use Rattle.datasets.specs.declared.read.Read.TheVariants.{Scan, GraphIs, Graphs}
use Rattle.datasets.specs.Dataset.{Quads, Is, Names, quad_order, same_graph}
use Rattle.datasets.specs.Id.{id_order, id_total, id_exact, option_exact, quad_exact, quad_total}
use Rattle.reads.specs.Reads.{Read, Answer}
use Rattle.reads.specs.Same.{list_eq, bool_eq, quads_eq, names_eq, answer_eq, graph_place_eq, pattern_eq, read_eq}

pub bool_eq-true : (a b : Bool) → bool_eq a b ≡ true → a ≡ b
bool_eq-true true true h = refl
bool_eq-true true false h = cc
bool_eq-true false false h = refl
bool_eq-true false true h = cc

pub bool_eq-same : (a : Bool) → bool_eq a a ≡ true
bool_eq-same true = refl
bool_eq-same false = refl

pub list_eq-true : {A : Type 0} (eq : A → A → Bool) → ((x y : A) → eq x y ≡ true → x ≡ y) → (xs ys : List A) → list_eq eq xs ys ≡ true → xs ≡ ys
list_eq-true eq exact [] [] h = refl
list_eq-true eq exact (x ∷ xs) (y ∷ ys) h =
    let p = and_parts (eq x y) (list_eq eq xs ys) h in
    λ t. exact x y p.0 t ∷ list_eq-true eq exact xs ys p.1 t
list_eq-true eq exact [] (y ∷ ys) h = cc
list_eq-true eq exact (x ∷ xs) [] h = cc

pub list_eq-same : {A : Type 0} (eq : A → A → Bool) → ((x : A) → eq x x ≡ true) → (xs : List A) → list_eq eq xs xs ≡ true
list_eq-same eq same [] = refl
list_eq-same eq same (x ∷ xs) = and_from (eq x x) (list_eq eq xs xs) (same x) (list_eq-same eq same xs)

name_true : (a b : Id) → eq_by_cmp id_order a b ≡ true → a ≡ b
name_true a b h = exact_by id_total id_exact a b h

name_same : (a : Id) → eq_by_cmp id_order a a ≡ true
name_same a = ap is_eq (tied_itself id_total a)

place_true : (a b : Option Id) → same_graph id_order a b ≡ true → a ≡ b
place_true a b h = exact_by (options_total id_total) (option_exact id_order id_exact) a b h

place_same : (a : Option Id) → same_graph id_order a a ≡ true
place_same a = ap is_eq (tied_itself (options_total id_total) a)

pub quads_eq-true : (a b : List (Quad Id)) → quads_eq a b ≡ true → a ≡ b
quads_eq-true a b h = list_eq-true (eq_by_cmp (quad_order id_order)) (exact_by (quad_total id_total) (quad_exact id_order id_exact)) a b h

pub quads_eq-same : (a : List (Quad Id)) → quads_eq a a ≡ true
quads_eq-same a = list_eq-same (eq_by_cmp (quad_order id_order)) (λ q. ap is_eq (tied_itself (quad_total id_total) q)) a

pub names_eq-true : (a b : List Id) → names_eq a b ≡ true → a ≡ b
names_eq-true a b h = list_eq-true (eq_by_cmp id_order) name_true a b h

pub names_eq-same : (a : List Id) → names_eq a a ≡ true
names_eq-same a = list_eq-same (eq_by_cmp id_order) name_same a

pub answer_eq-true : (a b : Answer) → answer_eq a b ≡ true → a ≡ b
answer_eq-true (Quads a) (Quads b) h = ap Quads (quads_eq-true a b h)
answer_eq-true (Is a) (Is b) h = ap Is (bool_eq-true a b h)
answer_eq-true (Names a) (Names b) h = ap Names (names_eq-true a b h)
answer_eq-true _ _ h = cc

pub answer_eq-same : (a : Answer) → answer_eq a a ≡ true
answer_eq-same (Quads a) = quads_eq-same a
answer_eq-same (Is a) = bool_eq-same a
answer_eq-same (Names a) = names_eq-same a

graph_place_true : (a b : GraphPlace Id) → graph_place_eq a b ≡ true → a ≡ b
graph_place_true Any Any h = refl
graph_place_true (Only a) (Only b) h = ap Only (place_true a b h)
graph_place_true _ _ h = cc

graph_place_same : (a : GraphPlace Id) → graph_place_eq a a ≡ true
graph_place_same Any = refl
graph_place_same (Only a) = place_same a

pattern_true : (a b : QuadPattern Id) → pattern_eq a b ≡ true → a ≡ b
pattern_true a b h =
    let p = and_parts (same_graph id_order a.subject b.subject) (same_graph id_order a.predicate b.predicate && (same_graph id_order a.object b.object && graph_place_eq a.graph b.graph)) h in
    let q = and_parts (same_graph id_order a.predicate b.predicate) (same_graph id_order a.object b.object && graph_place_eq a.graph b.graph) p.1 in
    let r = and_parts (same_graph id_order a.object b.object) (graph_place_eq a.graph b.graph) q.1 in
    let subject = place_true a.subject b.subject p.0 in
    let predicate = place_true a.predicate b.predicate q.0 in
    let object = place_true a.object b.object r.0 in
    let graph = graph_place_true a.graph b.graph r.1 in
    λ t. record { subject = subject t; predicate = predicate t; object = object t; graph = graph t }

pub read_eq-true : (a b : Read) → read_eq a b ≡ true → a ≡ b
read_eq-true (Scan a) (Scan b) h = ap Scan (pattern_true a b h)
read_eq-true (GraphIs a) (GraphIs b) h = ap GraphIs (name_true a b h)
read_eq-true Graphs Graphs h = refl
read_eq-true _ _ h = cc

pub read_eq-same : (a : Read) → read_eq a a ≡ true
read_eq-same (Scan a) =
    let o = and_from (same_graph id_order a.object a.object) (graph_place_eq a.graph a.graph) (place_same a.object) (graph_place_same a.graph) in
    let p = and_from (same_graph id_order a.predicate a.predicate) (same_graph id_order a.object a.object && graph_place_eq a.graph a.graph) (place_same a.predicate) o in
    and_from (same_graph id_order a.subject a.subject) (same_graph id_order a.predicate a.predicate && (same_graph id_order a.object a.object && graph_place_eq a.graph a.graph)) (place_same a.subject) p
read_eq-same (GraphIs a) = name_same a
read_eq-same Graphs = refl

-- std's test for equal lists
pub pointwise_is : {A : Type 0} (E F : A → A → Bool) → ((x y : A) → E x y ≡ F x y) → (xs ys : List A) → pointwise E xs ys ≡ list_eq F xs ys
pointwise_is E F same [] [] = refl
pointwise_is E F same [] (y ∷ ys) = refl
pointwise_is E F same (x ∷ xs) [] = refl
pointwise_is E F same (x ∷ xs) (y ∷ ys) = λ t. same x y t && pointwise_is E F same xs ys t
