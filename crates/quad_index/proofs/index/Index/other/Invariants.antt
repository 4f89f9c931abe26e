use Rattle.std.proofs.Common.{◌≡◌, ◌<◌, ℕ, get_or}
use Rattle.quad_index.specs.declared.order.Order.{Order}
use Rattle.quad_index.proofs.index.Index.other.Given as goal

abbrev pub invariant-loop-order : goal.invariant-loop-order
invariant-loop-order l = (k : ℕ) (d : Order) → k < l.order-index → (get_or l.order-items k d).arrangement ≡ l.arrangement → ⊥
