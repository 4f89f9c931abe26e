use Rattle.std.proofs.Common.{length}
use Rattle.lexer.specs.Reading.{NoneAhead}
use Rattle.lexer.proofs.CutLaws.{IsCutSoFar}
use Rattle.lexer.proofs.cut.tokens_of.Given as goal

abbrev pub invariant-loop-rest : goal.invariant-loop-rest
invariant-loop-rest l = IsCutSoFar l.fn.text l.tokens.items l.rest × NoneAhead l.rest l.edge

abbrev pub decreases-loop-rest : goal.decreases-loop-rest
decreases-loop-rest l = length l.rest
