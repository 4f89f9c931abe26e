-- What operations on whole graphs change by themselves leads where they lead.
use Rattle.std.specs.Prelude.{Bool, true, false, not, filter, map, if◌then◌else◌, is_some, is_none}
use Rattle.std.proofs.Common.{◌≡◌, List, [], ◌∷◌, Option, Some, None, Ok, Err, refl, sym, ap, ◌∙◌}
use Rattle.std.proofs.lemmas.Bool.{false≢true, or_cases}
use Rattle.sets.specs.Sets.{has, set_of, union, with, without}
use Rattle.sets.proofs.SetLaws.{exact_by}
use Rattle.sets.proofs.Filters.{filter_twice}
use Rattle.change_laws.specs.Laws.{IsRising}
use Rattle.datasets.specs.declared.id.Id.{Id}
use Rattle.datasets.specs.declared.quad.Quad.{Quad}
use Rattle.datasets.specs.Dataset.{same_graph, quad_order, quads_in, is_there, matches}
use Rattle.datasets.specs.Id.{id_order, id_total, id_exact, quad_total, quad_exact, option_exact}
use Rattle.std.specs.Cmp.Lexicographic.{options_total}
use Rattle.std.proofs.Math.Logic.{⊎_elim}
use Rattle.algebra.specs.declared.update.Target.{Target}
use Rattle.algebra.specs.declared.update.Target.TheVariants as target
use Rattle.algebra.specs.declared.update.Transfer.{Transfer}
use Rattle.algebra.specs.declared.update.Transfer.TheVariants as transfer
use Rattle.algebra.specs.declared.update.GraphOperation.TheVariants as graphs
use Rattle.meaning.specs.GraphOperations.{graphs_after, in_graph, moved_to, transferred, with_name, without_name, dropped, cleared}
use Rattle.meaning.specs.declared.reply.Cause.TheVariants.{GraphExists, GraphMissing}
use Rattle.reads.specs.Reads.{View, Delta, applied}
use Rattle.update.specs.Graphs.{target_of, is_among, quads_of, names_of, is_target_there, place_of, whole, leaving, name_list, name_leaving}
use Rattle.update.proofs.Differences.{unchanged, nothing_differs}
use Rattle.update.proofs.GraphLaws.{taken_out, these_out, these_in, one_in, these_for, these_moved, one_moved}

-- ---- which graphs are named

-- the default graph by itself, or a named one
pub among_one : (g h : Option Id) → is_among (target_of g) h ≡ same_graph id_order h g
among_one None None = refl
among_one None (Some h) = refl
among_one (Some g) h = refl

default_is : (h : Option Id) → is_none h ≡ same_graph id_order h None
default_is h = among_one None h

named_is : (h : Option Id) → not (is_some h) ≡ same_graph id_order h None
named_is h = default_is h

pub quads_of_one : (g : Option Id) (quads : List (Quad Id)) → quads_of (target_of g) quads ≡ quads_in id_order g quads
quads_of_one g quads = λ i. filter (λ q. among_one g q.graph i) quads

pub there_is : (d : View) (g : Option Id) → is_target_there d (target_of g) ≡ is_there id_order d g
there_is d None = refl
there_is d (Some g) = refl

-- a scan for them tells of each
scan_among : (t : Target Id) (q : Quad Id) → is_among t q.graph ≡ true → matches id_order (whole (place_of t)) q ≡ true
scan_among (target.Graph g) q e = e
scan_among target.Default q e = sym (among_one None q.graph) ∙ e
scan_among target.Named q e = refl
scan_among target.All q e = refl

pub scanned_of : (t : Target Id) (quads : List (Quad Id)) → quads_of t (filter (matches id_order (whole (place_of t))) quads) ≡ quads_of t quads
scanned_of t quads = filter_twice (λ q. is_among t q.graph) (matches id_order (whole (place_of t))) (scan_among t) quads

none_left : {A : Type 0} (xs : List A) → filter (λ x. not true) xs ≡ []
none_left [] = refl
none_left (x ∷ xs) = none_left xs

-- ---- CREATE

pub created_is : (g : Id) (d : View) → IsRising id_order d → has id_order d.names g ≡ false
    → Ok (applied (record { present = []; absent = []; there = set_of id_order (g ∷ []); gone = [] }) d) ≡ graphs_after id_order (graphs.Create g) d
unfolding applied
created_is g d s free =
    let quads = unchanged (quad_total id_total) (quad_exact id_order id_exact) d.quads s.quads in
    let names = one_in id_total id_exact d.names g s.names in
    (λ i. Ok (record { quads = quads i; names = names i }))
    ∙ ap (λ b. if b then Err GraphExists else Ok (record { quads = d.quads; names = with id_order g d.names })) (sym free)

pub exists_is : (g : Id) (d : View) → has id_order d.names g ≡ true → Err GraphExists ≡ graphs_after id_order (graphs.Create g) d
exists_is g d there = ap (λ b. if b then Err GraphExists else Ok (record { quads = d.quads; names = with id_order g d.names })) (sym there)

-- ---- CLEAR and DROP

abbrev quads_out : Target Id → List (Quad Id) → List (Quad Id)
quads_out t quads = union (quad_order id_order) (without (quad_order id_order) quads (set_of (quad_order id_order) (quads_of t quads))) []

out_is : (t : Target Id) (d : View) → IsRising id_order d → quads_out t d.quads ≡ filter (λ q. not (is_among t q.graph)) d.quads
out_is t d s = taken_out (quad_total id_total) (quad_exact id_order id_exact) (λ q. is_among t q.graph) d.quads s.quads

pub cleared_is : (t : Target Id) (d : View) → IsRising id_order d → is_target_there d t ≡ true
    → Ok (applied (record { present = []; absent = set_of (quad_order id_order) (quads_of t d.quads); there = []; gone = [] }) d) ≡ graphs_after id_order (graphs.Clear t) d
unfolding applied
cleared_is (target.Graph g) d s there =
    let names = unchanged id_total id_exact d.names s.names in
    (λ i. Ok (record { quads = out_is (target.Graph g) d s i; names = names i }))
    ∙ ap (λ b. if b then Ok (cleared id_order (Some g) d) else Err GraphMissing) (sym there)
cleared_is target.Default d s there =
    let quads = out_is target.Default d s ∙ (λ i. filter (λ q. not (default_is q.graph i)) d.quads) in
    let names = unchanged id_total id_exact d.names s.names in
    λ i. Ok (record { quads = quads i; names = names i })
cleared_is target.Named d s there =
    let quads = out_is target.Named d s ∙ (λ i. filter (λ q. named_is q.graph i) d.quads) in
    let names = unchanged id_total id_exact d.names s.names in
    λ i. Ok (record { quads = quads i; names = names i })
cleared_is target.All d s there =
    let quads = out_is target.All d s ∙ none_left d.quads in
    let names = unchanged id_total id_exact d.names s.names in
    λ i. Ok (record { quads = quads i; names = names i })

pub dropped_is : (t : Target Id) (d : View) → IsRising id_order d → is_target_there d t ≡ true
    → Ok (applied (record { present = []; absent = set_of (quad_order id_order) (quads_of t d.quads); there = []; gone = set_of id_order (names_of t d.names) }) d)
    ≡ graphs_after id_order (graphs.Drop t) d
unfolding applied
dropped_is (target.Graph g) d s there =
    let names = these_out id_total id_exact (g ∷ []) d.names s.names in
    (λ i. Ok (record { quads = out_is (target.Graph g) d s i; names = names i }))
    ∙ ap (λ b. if b then Ok (dropped id_order (Some g) d) else Err GraphMissing) (sym there)
dropped_is target.Default d s there =
    let quads = out_is target.Default d s ∙ (λ i. filter (λ q. not (default_is q.graph i)) d.quads) in
    let names = unchanged id_total id_exact d.names s.names in
    λ i. Ok (record { quads = quads i; names = names i })
dropped_is target.Named d s there =
    let quads = out_is target.Named d s ∙ (λ i. filter (λ q. named_is q.graph i) d.quads) in
    let names = these_out id_total id_exact d.names d.names s.names ∙ nothing_differs id_total id_exact d.names s.names in
    λ i. Ok (record { quads = quads i; names = names i })
dropped_is target.All d s there =
    let quads = out_is target.All d s ∙ none_left d.quads in
    let names = these_out id_total id_exact d.names d.names s.names ∙ nothing_differs id_total id_exact d.names s.names in
    λ i. Ok (record { quads = quads i; names = names i })

pub not_cleared : (t : Target Id) (d : View) → is_target_there d t ≡ false → Err GraphMissing ≡ graphs_after id_order (graphs.Clear t) d
not_cleared (target.Graph g) d missing = ap (λ b. if b then Ok (cleared id_order (Some g) d) else Err GraphMissing) (sym missing)
not_cleared target.Default d missing = absurd (false≢true (sym missing))
not_cleared target.Named d missing = absurd (false≢true (sym missing))
not_cleared target.All d missing = absurd (false≢true (sym missing))

pub not_dropped : (t : Target Id) (d : View) → is_target_there d t ≡ false → Err GraphMissing ≡ graphs_after id_order (graphs.Drop t) d
not_dropped (target.Graph g) d missing = ap (λ b. if b then Ok (dropped id_order (Some g) d) else Err GraphMissing) (sym missing)
not_dropped target.Default d missing = absurd (false≢true (sym missing))
not_dropped target.Named d missing = absurd (false≢true (sym missing))
not_dropped target.All d missing = absurd (false≢true (sym missing))

-- ---- COPY, MOVE and ADD

if_same : (how : Transfer) (from to : Option Id) (d : View) (same : Bool) → same_graph id_order from to ≡ same → (there : Bool) → is_there id_order d from ≡ there
    → (if same then Ok d else (if there then Ok (transferred id_order how from to d) else Err GraphMissing)) ≡ graphs_after id_order (graphs.Transfer how from to) d
if_same how from to d same e there h = λ i. if sym e i then Ok d else (if sym h i then Ok (transferred id_order how from to d) else Err GraphMissing)

pub same_is : (how : Transfer) (from to : Option Id) (d : View) → same_graph id_order from to ≡ true → Ok d ≡ graphs_after id_order (graphs.Transfer how from to) d
same_is how from to d e = if_same how from to d true e _ refl

pub not_transferred : (how : Transfer) (from to : Option Id) (d : View) → same_graph id_order from to ≡ false → is_target_there d (target_of from) ≡ false
    → Err GraphMissing ≡ graphs_after id_order (graphs.Transfer how from to) d
not_transferred how from to d e missing = if_same how from to d false e false (sym (there_is d from) ∙ missing)

-- the triples that come are of the graph that they come to
moved_there : (to : Option Id) (quads : List (Quad Id)) (x : Quad Id) → has (quad_order id_order) (map (in_graph id_order to) quads) x ≡ true → x.graph ≡ to
moved_there to [] x e = absurd (false≢true e)
moved_there to (q ∷ quads) x e =
    ⊎_elim (λ h. ap (λ (y : Quad Id). y.graph) (exact_by (quad_total id_total) (quad_exact id_order id_exact) x (in_graph id_order to q) h))
    (moved_there to quads x)
    (or_cases _ _ e)

-- graphs that differ, either way
other_way : (from to : Option Id) → same_graph id_order from to ≡ false → same_graph id_order to from ≡ false
other_way from to e = by_cases (same_graph id_order to from) refl
  where
    by_cases : (b : Bool) → same_graph id_order to from ≡ b → b ≡ false
    by_cases true h =
        let is : to ≡ from = exact_by (options_total id_total) (option_exact id_order id_exact) to from h in
        sym h ∙ (λ i. same_graph id_order (is i) (sym is i)) ∙ e
    by_cases false h = refl

names_in : (to : Option Id) (d : View) → IsRising id_order d → union id_order (without id_order d.names []) (set_of id_order (name_list to)) ≡ with_name id_order to d.names
names_in None d s = unchanged id_total id_exact d.names s.names
names_in (Some g) d s = one_in id_total id_exact d.names g s.names

names_moved : (from to : Option Id) (d : View) → IsRising id_order d → same_graph id_order to from ≡ false
    → union id_order (without id_order d.names (set_of id_order (name_list from))) (set_of id_order (name_list to)) ≡ without_name id_order from (with_name id_order to d.names)
names_moved None to d s other = names_in to d s
names_moved (Some f) None d s other = these_out id_total id_exact (f ∷ []) d.names s.names
names_moved (Some f) (Some t) d s other = one_moved id_total id_exact d.names f t other s.names

-- what a transfer changes by itself
abbrev pub transfer_change : Transfer → (from to : Option Id) → View → Delta
transfer_change how from to d = record {
  present = set_of (quad_order id_order) (moved_to id_order from to d);
  absent = set_of (quad_order id_order) (leaving how (quads_in id_order from d.quads) (quads_in id_order to d.quads));
  there = set_of id_order (name_list to);
  gone = set_of id_order (name_leaving how from);
}

transfer_leads : (how : Transfer) (from to : Option Id) (d : View) → IsRising id_order d → same_graph id_order to from ≡ false
    → applied (transfer_change how from to d) d ≡ transferred id_order how from to d
unfolding applied
transfer_leads transfer.Add from to d s other =
    let quads = these_in (quad_total id_total) (quad_exact id_order id_exact) d.quads (moved_to id_order from to d) in
    λ i. record { quads = quads i; names = names_in to d s i }
transfer_leads transfer.Copy from to d s other =
    let quads = these_for (quad_total id_total) (quad_exact id_order id_exact) (λ q. same_graph id_order q.graph to) d.quads (moved_to id_order from to d) in
    λ i. record { quads = quads i; names = names_in to d s i }
transfer_leads transfer.Move from to d s other =
    let of_other : (x : Quad Id) → has (quad_order id_order) (moved_to id_order from to d) x ≡ true → same_graph id_order x.graph from ≡ false =
    λ x e. ap (λ g. same_graph id_order g from) (moved_there to (quads_in id_order from d.quads) x e) ∙ other in
    let quads =
    these_moved (quad_total id_total) (quad_exact id_order id_exact) (λ q. same_graph id_order q.graph from) (λ q. same_graph id_order q.graph to) d.quads (moved_to id_order from to d) of_other in
    λ i. record { quads = quads i; names = names_moved from to d s other i }

pub transferred_is : (how : Transfer) (from to : Option Id) (d : View) → IsRising id_order d → same_graph id_order from to ≡ false → is_target_there d (target_of from) ≡ true
    → Ok (applied (transfer_change how from to d) d) ≡ graphs_after id_order (graphs.Transfer how from to) d
transferred_is how from to d s e there =
    ap Ok (transfer_leads how from to d s (other_way from to e)) ∙ if_same how from to d false e true (sym (there_is d from) ∙ there)
