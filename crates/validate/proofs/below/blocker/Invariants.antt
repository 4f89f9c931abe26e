use Rattle.std.proofs.Common.{◌≡◌}
use Rattle.validate.specs.Below.{blocker}
use Rattle.validate.specs.Kept.{shown}
use Rattle.validate.specs.Lower.{after_first}
use Rattle.validate.proofs.below.blocker.Given as goal

abbrev pub invariant-loop-request : goal.invariant-loop-request
invariant-loop-request l = l.found ≡ blocker (shown l.kept.slots.items) (after_first l.low l.list l.i l.request-index) l.read
