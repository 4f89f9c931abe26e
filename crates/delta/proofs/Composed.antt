-- One change after another is one change.
use Rattle.std.proofs.Common.{◌≡◌, ap, ◌∙◌}
use Rattle.sets.specs.Sets.{union, without}
use Rattle.sets.proofs.SetLaws.{set_twice}
use Rattle.datasets.specs.Dataset.{quad_order}
use Rattle.datasets.specs.Id.{id_order, id_total, id_exact, quad_exact, quad_total}
use Rattle.reads.specs.Reads.{View, Delta, applied}

abbrev pub both : Delta → Delta → Delta
both c e = record {
  present = union (quad_order id_order) (without (quad_order id_order) c.present e.absent) e.present;
  absent = union (quad_order id_order) c.absent e.absent;
  there = union id_order (without id_order c.there e.gone) e.there;
  gone = union id_order c.gone e.gone;
}

pub one_after_another : (c e : Delta) (d : View) → applied (both c e) d ≡ applied e (applied c d)
unfolding applied
one_after_another c e d =
    let quads = set_twice (quad_total id_total) (quad_exact id_order id_exact) d.quads c.absent c.present e.absent e.present in
    let names = set_twice id_total id_exact d.names c.gone c.there e.gone e.there in
    λ t. record { quads = quads t; names = names t }

pub composed : (c e r : Delta) → r.present ≡ (both c e).present → r.absent ≡ (both c e).absent → r.there ≡ (both c e).there → r.gone ≡ (both c e).gone → (d : View) → applied r d ≡ applied e (applied c d)
composed c e r p a t g d =
    ap (λ (z : Delta). applied z d) (λ i. record { present = p i; absent = a i; there = t i; gone = g i }) ∙ one_after_another c e d
