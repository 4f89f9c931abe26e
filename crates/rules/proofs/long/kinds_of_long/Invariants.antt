use Rattle.std.proofs.Common.{length}
use Rattle.rules.proofs.LongLaws.{IsSeenSoFar}
use Rattle.rules.proofs.long.kinds_of_long.Given as goal

abbrev pub invariant-loop-rest : goal.invariant-loop-rest
invariant-loop-rest l = IsSeenSoFar l.fn.text l.walk l.rest

abbrev pub decreases-loop-rest : goal.decreases-loop-rest
decreases-loop-rest l = length l.rest
