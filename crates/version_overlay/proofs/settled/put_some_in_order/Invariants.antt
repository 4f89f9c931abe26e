use Rattle.std.proofs.Common.{◌≡◌}
use Rattle.version_overlay.proofs.settled.put_some_in_order.Given as goal

abbrev pub invariant-loop-level : goal.invariant-loop-level
invariant-loop-level l = l.level-items ≡ l.initial.level-items
