use Rattle.std.proofs.Common.{◌≡◌}
use Rattle.validate.specs.Kept.{shown}
use Rattle.slots.specs.Slots.{replies_to}
use Rattle.slots.proofs.slots.replies_before.Given as goal

abbrev pub invariant-loop-j : goal.invariant-loop-j
invariant-loop-j l = l.list.items ≡ replies_to (shown l.slots) l.j
