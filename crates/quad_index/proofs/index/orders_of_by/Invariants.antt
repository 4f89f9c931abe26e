use Rattle.std.proofs.Common.{◌≡◌, take}
use Rattle.quad_index.specs.Index.{AllAlike, arrangements_of}
use Rattle.quad_index.proofs.index.orders_of_by.Given as goal

abbrev pub invariant-loop-arrangement : goal.invariant-loop-arrangement
invariant-loop-arrangement g l = record {
  orders : arrangements_of l.orders.items ≡ take l.arrangement-index l.arrangements;
  alike : AllAlike l.spog.quads l.orders.items;
}
