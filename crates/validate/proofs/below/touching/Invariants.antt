use Rattle.std.proofs.Common.{◌≡◌, ◌++◌}
use Rattle.validate.specs.Below.{touching}
use Rattle.validate.specs.Kept.{shown}
use Rattle.validate.specs.Lower.{after_first}
use Rattle.validate.proofs.below.touching.Given as goal

abbrev pub invariant-loop-request : goal.invariant-loop-request
invariant-loop-request l = touching (shown l.slots) l.low l.read ++ l.found ≡ touching (shown l.slots) (after_first l.low l.list l.i l.request-index) l.read
