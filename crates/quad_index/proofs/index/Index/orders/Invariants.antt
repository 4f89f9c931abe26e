use Rattle.std.proofs.Common.{◌≡◌, take}
use Rattle.quad_index.specs.Index.{arrangements_of}
use Rattle.quad_index.proofs.index.Index.orders.Given as goal

abbrev pub invariant-loop-order : goal.invariant-loop-order
invariant-loop-order l = l.orders.items ≡ arrangements_of (take l.order-index l.order-items)
