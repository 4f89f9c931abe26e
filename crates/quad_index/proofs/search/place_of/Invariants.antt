use Rattle.std.proofs.Common.{◌≡◌, ◌≤◌, ◌-◌, true, false, length}
use Rattle.std.specs.List.{AllWithin}
use Rattle.quad_lists.specs.Keys.{key_of, order_at, is_before}
use Rattle.quad_index.proofs.search.place_of.Given as goal

abbrev pub invariant-loop-low : goal.invariant-loop-low
invariant-loop-low g l = record {
  ordered : l.low ≤ l.high;
  within : l.high ≤ length l.entries;
  front : AllWithin (λ e. is_before l.past (order_at l.depth (key_of l.arrangement (g.E.Entry.quad e)) l.target) ≡ true) l.entries 0 l.low;
  back : AllWithin (λ e. is_before l.past (order_at l.depth (key_of l.arrangement (g.E.Entry.quad e)) l.target) ≡ false) l.entries l.high (length l.entries);
}

abbrev pub decreases-loop-low : goal.decreases-loop-low
decreases-loop-low g l = l.high - l.low
