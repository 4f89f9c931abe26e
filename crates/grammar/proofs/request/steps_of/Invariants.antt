use Rattle.std.proofs.Common.{length}
use Rattle.grammar.proofs.RequestLaws.{IsReadSoFar}
use Rattle.grammar.proofs.request.steps_of.Given as goal

abbrev pub invariant-loop-rest : goal.invariant-loop-rest
invariant-loop-rest l = IsReadSoFar l.fn.tokens l.found l.rest

abbrev pub decreases-loop-rest : goal.decreases-loop-rest
decreases-loop-rest l = length l.rest
