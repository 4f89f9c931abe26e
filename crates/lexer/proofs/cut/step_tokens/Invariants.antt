use Rattle.std.proofs.Common.{◌≡◌, ◌+◌, ◌≤◌, ◌++◌, List, length}
use Rattle.lexer.specs.declared.token.Token.{Token}
use Rattle.lexer.proofs.FrontLaws.{GoOn}
use Rattle.lexer.specs.Reading.{NoneAhead}
use Rattle.lexer.proofs.CutLaws.{IsCutSoFar}
use Rattle.lexer.proofs.cut.step_tokens.Given as goal

abbrev pub invariant-loop-edge : goal.invariant-loop-edge
invariant-loop-edge l = record {
  cut : IsCutSoFar l.fn.text l.tokens.items l.rest;
  ahead : NoneAhead l.rest l.edge;
  room : l.depth + length l.rest ≤ l.most;
  within : l.most ≤ length l.fn.text;
  goes_on : GoOn l.tokens.items l.depth;
}

abbrev pub decreases-loop-edge : goal.decreases-loop-edge
decreases-loop-edge l = length l.rest
