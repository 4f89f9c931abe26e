use Rattle.validate.specs.Kept.{shown}
use Rattle.validate.proofs.Leading.{Gathers}
use Rattle.validate.proofs.candidates.covering_between.Given as goal

abbrev pub invariant-loop-request : goal.invariant-loop-request
invariant-loop-request l = Gathers (shown l.slots) l.read l.from l.request l.found.items
