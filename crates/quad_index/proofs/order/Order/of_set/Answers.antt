use Rattle.std.proofs.Common.{◌<◌, ◌^◌, List, length, sym, subst, arith}
use Rattle.datasets.specs.declared.id.Id.{Id}
use Rattle.datasets.specs.declared.quad.Quad.{Quad}
use Rattle.quad_lists.specs.declared.key.Arrangement.TheVariants.{Spog}
use Rattle.quad_index.specs.Sorted.{IsOrder}
use Rattle.quad_index.proofs.Orders.{set_by_places}
use Rattle.quad_index.proofs.order.Order.of_set.Goals as goal

pub invariant_of-result : goal.invariant_of-result
invariant_of-result c =
    let e = c.if-quads-ge4611686018427387904.false in
    let small : length c.args.quads.now < 2 ^ 62 = omega arith in
    subst (λ (quads : List (Quad Id)). IsOrder Spog quads) (sym c.in_ok-entries.ensures) (record { sorted = set_by_places c.args.quads.now c.requires; short = omega arith })
