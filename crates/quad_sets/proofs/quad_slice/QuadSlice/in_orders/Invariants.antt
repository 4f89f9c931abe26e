use Rattle.std.proofs.Common.{◌≡◌, take}
use Rattle.quad_index.specs.Index.{AllAlike, arrangements_of}
use Rattle.quad_sets.proofs.quad_slice.QuadSlice.in_orders.Given as goal

abbrev pub invariant-loop-arrangement : goal.invariant-loop-arrangement
invariant-loop-arrangement l = record {
  orders : arrangements_of l.orders.items ≡ take l.arrangement-index l.arrangements;
  alike : AllAlike l.self l.orders.items;
}
