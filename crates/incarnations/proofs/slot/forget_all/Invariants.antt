use Rattle.std.proofs.Common.{◌≡◌}
use Rattle.incarnations.proofs.slot.forget_all.Given as goal

abbrev pub invariant-loop-item : goal.invariant-loop-item
invariant-loop-item g l = l.item-items ≡ l.initial.item-items
