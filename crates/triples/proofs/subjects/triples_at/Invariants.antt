use Rattle.std.proofs.Common.{◌≡◌, length}
use Rattle.triples.specs.Reading.{same_at, triple_link, triples_at}
use Rattle.productions.proofs.ManyLaws.{so_far}
use Rattle.triples.proofs.subjects.triples_at.Given as goal

abbrev pub invariant-loop-goes_on : goal.invariant-loop-goes_on
invariant-loop-goes_on l = so_far same_at triple_link l.goes_on l.found l.rest ≡ triples_at l.fn.tokens

abbrev pub decreases-loop-goes_on : goal.decreases-loop-goes_on
decreases-loop-goes_on l = length l.rest
