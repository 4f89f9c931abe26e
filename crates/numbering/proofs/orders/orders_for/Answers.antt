use Rattle.numbering.proofs.WantedLaws.{has_orders}
use Rattle.numbering.proofs.orders.orders_for.Goals as goal

pub returns : goal.returns
returns c = has_orders c.args.block.now c.as_slice.result.now c.wanted_by-wanted.result c.in_ok-orders.orders.items c.as_slice.ensures c.wanted_by-wanted.ensures c.in_ok-orders.ensures
