use Rattle.std.proofs.Common.{◌≡◌, length}
use Rattle.triples.specs.Reading.{skip_semicolons}
use Rattle.triples.proofs.links.skip_semicolons.Given as goal

abbrev pub invariant-loop-rest : goal.invariant-loop-rest
invariant-loop-rest l = skip_semicolons l.rest ≡ skip_semicolons l.fn.tokens

abbrev pub decreases-loop-rest : goal.decreases-loop-rest
decreases-loop-rest l = length l.rest
