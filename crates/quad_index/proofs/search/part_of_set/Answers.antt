use Rattle.std.proofs.Common.{◌+◌, ◌∙◌, ap, arith, get_or}
use Rattle.std.proofs.lemmas.Map.Keys.{Less-from_sorted}
use Rattle.std.specs.Ordering.{is_lt, ordering_reverse}
use Rattle.std.specs.Cmp.{IsTotalOrder}
use Rattle.datasets.specs.Id.{id_order, id_total, quad_total}
use Rattle.datasets.specs.Dataset.{quad_order, matches}
use Rattle.quad_index.proofs.search.part_of_set.Goals as goal

pub part_for-requires : goal.part_for-requires
part_for-requires c k d low high =
    let total : IsTotalOrder (quad_order id_order) = quad_total id_total in
    ap is_lt (total.antisymm (get_or c.args.quads.now (k + 1) d) (get_or c.args.quads.now k d) ∙ ap ordering_reverse (Less-from_sorted (quad_order id_order) c.args.quads.now k (k + 1) d c.requires (omega arith) high))

pub returns : goal.returns
returns c = c.part_for.ensures (matches id_order c.args.pattern.now) (λ e h. h)
