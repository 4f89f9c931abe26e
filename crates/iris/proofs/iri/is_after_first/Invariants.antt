use Rattle.std.proofs.Common.{◌≡◌, length}
use Rattle.iris.specs.Iri.{after_first}
use Rattle.iris.proofs.iri.is_after_first.Given as goal

abbrev pub invariant-loop-rest : goal.invariant-loop-rest
invariant-loop-rest l = after_first l.rest ≡ after_first l.fn.bytes

abbrev pub decreases-loop-rest : goal.decreases-loop-rest
decreases-loop-rest l = length l.rest
