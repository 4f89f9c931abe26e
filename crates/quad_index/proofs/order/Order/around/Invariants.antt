use Rattle.std.proofs.Common.{◌≡◌, ◌≤◌, ◌<◌, ◌+◌, ◌-◌, ◌^◌, ℕ, true, false, length}
use Rattle.std.specs.List.{AllWithin}
use Rattle.quad_lists.specs.Keys.{key_of, order_at, is_before}
use Rattle.quad_index.specs.Looks.{HasDigits}
use Rattle.quad_index.proofs.order.Order.around.Given as goal

abbrev pub invariant-loop-low : goal.invariant-loop-low
invariant-loop-low l = record {
  ordered : l.low ≤ l.high;
  within : l.high ≤ length l.self.quads;
  front : AllWithin (λ q. is_before false (order_at l.depth (key_of l.self.arrangement q) l.target) ≡ true) l.self.quads 0 l.low;
  back : AllWithin (λ q. is_before true (order_at l.depth (key_of l.self.arrangement q) l.target) ≡ false) l.self.quads l.high (length l.self.quads);
  more : l.initial.looks ≤ l.looks;
  looks : (digits : ℕ) → HasDigits (length l.self.quads) digits → (l.looks ≤ l.initial.looks + digits) × (l.high - l.low < 2 ^ (l.initial.looks + digits - l.looks));
}

abbrev pub decreases-loop-low : goal.decreases-loop-low
decreases-loop-low l = l.high - l.low
