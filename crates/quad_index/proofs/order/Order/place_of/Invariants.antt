use Rattle.std.proofs.Common.{◌≡◌, ◌≤◌, ◌<◌, ◌+◌, ◌-◌, ◌^◌, ℕ, true, false, length}
use Rattle.std.specs.List.{AllWithin}
use Rattle.quad_lists.specs.Keys.{key_of, order_at, is_before}
use Rattle.quad_index.specs.Looks.{HasDigits}
use Rattle.quad_index.proofs.order.Order.place_of.Given as goal

abbrev pub invariant-loop-low : goal.invariant-loop-low
invariant-loop-low l = record {
  ordered : l.low ≤ l.high;
  from : l.from ≤ l.low;
  to : l.high ≤ l.to;
  front : AllWithin (λ q. is_before l.past (order_at l.depth (key_of l.self.arrangement q) l.target) ≡ true) l.self.quads 0 l.low;
  back : AllWithin (λ q. is_before l.past (order_at l.depth (key_of l.self.arrangement q) l.target) ≡ false) l.self.quads l.high (length l.self.quads);
  looks : (digits : ℕ) → HasDigits (l.to - l.from) digits → (l.looks ≤ l.initial.looks + digits) × (l.high - l.low < 2 ^ (l.initial.looks + digits - l.looks));
}

abbrev pub decreases-loop-low : goal.decreases-loop-low
decreases-loop-low l = l.high - l.low
