-- Quads between graphs match no pattern of a graph that is not among them.
use Rattle.std.proofs.Common.{◌≡◌, ◌+◌, suc, Bool, true, false, List, [], ◌∷◌, length, refl, sym, ◌∙◌, subst, arith}
use Rattle.std.specs.Prelude.{◌&&◌, ◌||◌, nat_le}
use Rattle.std.specs.List.{list_any}
use Rattle.std.specs.Cmp.{Equal-is}
use Rattle.std.specs.Option.{option_cmp}
use Rattle.std.proofs.lemmas.Bool.{le-leb}
use Rattle.datasets.specs.declared.id.Id.{Id}
use Rattle.datasets.specs.declared.quad.Quad.{Quad}
use Rattle.datasets.specs.declared.read.QuadPattern.{QuadPattern}
use Rattle.datasets.specs.declared.read.GraphPlace.{GraphPlace}
use Rattle.datasets.specs.declared.read.GraphPlace.TheVariants.{Any, Only}
use Rattle.datasets.specs.Dataset.{matches, in_place, free_or}
use Rattle.datasets.specs.Id.{id_order, id_exact, option_exact}
use Rattle.delta.specs.declared.graph_span.GraphSpan.{GraphSpan}
use Rattle.delta.specs.declared.graph_span.GraphSpan.TheVariants as span
use Rattle.delta.specs.GraphSpan.{graph_number, IsWithin, AreWithin, lets}

-- what is in the place is let through
let_through : (s : GraphSpan) (place : GraphPlace Id) (q : Quad Id) → IsWithin s q → in_place id_order place q.graph ≡ true → lets s place ≡ true
let_through span.Any place q within e = refl
let_through (span.Between low high) Any q within e = refl
let_through (span.Between low high) (Only g) q within e =
    let same : q.graph ≡ g = option_exact id_order id_exact q.graph g ((Equal-is (option_cmp id_order q.graph g)).0 e) in
    subst (λ h. (nat_le low (graph_number h) && nat_le (graph_number h) high) ≡ true) same (rw (le-leb low (graph_number q.graph) within.0, le-leb (graph_number q.graph) high within.1) refl)

and_second : (a b : Bool) → (a && b) ≡ true → b ≡ true
and_second true b e = e
and_second false b e = absurd (let f : false ≡ true = e in cc)

matched_place : (p : QuadPattern Id) (q : Quad Id) → matches id_order p q ≡ true → in_place id_order p.graph q.graph ≡ true
matched_place p q e =
    let place = in_place id_order p.graph q.graph in
    let object = free_or id_order p.object q.object in
    let predicate = free_or id_order p.predicate q.predicate in
    and_second object place (and_second predicate (object && place) (and_second (free_or id_order p.subject q.subject) (predicate && (object && place)) e))

no_match : (s : GraphSpan) (p : QuadPattern Id) (q : Quad Id) → IsWithin s q → lets s p.graph ≡ false → (t : Bool) → matches id_order p q ≡ t → t ≡ false
no_match s p q within stops true e = absurd (let f : true ≡ false = sym (let_through s p.graph q within (matched_place p q e)) ∙ stops in cc)
no_match s p q within stops false e = refl

none_matches : (s : GraphSpan) (p : QuadPattern Id) (quads : List (Quad Id)) → AreWithin s quads → lets s p.graph ≡ false → list_any (matches id_order p) quads ≡ false
none_matches s p [] within stops = refl
none_matches s p (q ∷ quads) within stops =
    rw (no_match s p q (within 0 q (let e : length (q ∷ quads) ≡ length quads + 1 = omega arith in omega arith)) stops (matches id_order p q) refl)
    (none_matches s p quads (λ i d h. within (suc i) d (let e : length (q ∷ quads) ≡ length quads + 1 = omega arith in omega arith)) stops)

pub neither_matches : (s : GraphSpan) (p : QuadPattern Id) (present absent : List (Quad Id)) → AreWithin s present → AreWithin s absent → lets s p.graph ≡ false
    → (list_any (matches id_order p) present || list_any (matches id_order p) absent) ≡ false
neither_matches s p present absent a b stops = rw (none_matches s p present a stops, none_matches s p absent b stops) refl
