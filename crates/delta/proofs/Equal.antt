-- The test for equal changes is exact.
use Rattle.std.proofs.Common.{◌≡◌, true, ◌&&◌}
use Rattle.std.proofs.lemmas.Bool.{and_parts}
use Rattle.reads.specs.Reads.{Delta}
use Rattle.reads.specs.Same.{quads_eq, names_eq}
use Rattle.reads.proofs.Equal.{quads_eq-true, names_eq-true}
use Rattle.delta.specs.Same.{delta_eq}

pub delta_eq-true : (a b : Delta) → delta_eq a b ≡ true → a ≡ b
delta_eq-true a b h =
    let p = and_parts (quads_eq a.present b.present) (quads_eq a.absent b.absent && (names_eq a.there b.there && names_eq a.gone b.gone)) h in
    let q = and_parts (quads_eq a.absent b.absent) (names_eq a.there b.there && names_eq a.gone b.gone) p.1 in
    let r = and_parts (names_eq a.there b.there) (names_eq a.gone b.gone) q.1 in
    let present = quads_eq-true a.present b.present p.0 in
    let absent = quads_eq-true a.absent b.absent q.0 in
    let there = names_eq-true a.there b.there r.0 in
    let gone = names_eq-true a.gone b.gone r.1 in
    λ t. record { present = present t; absent = absent t; there = there t; gone = gone t }
