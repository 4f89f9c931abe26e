use Rattle.std.proofs.Common.{◌≡◌, length}
use Rattle.triples.specs.Reading.{object_at, object_link, objects_at}
use Rattle.productions.proofs.ManyLaws.{so_far}
use Rattle.triples.proofs.subjects.objects_at.Given as goal

abbrev pub invariant-loop-goes_on : goal.invariant-loop-goes_on
invariant-loop-goes_on l = so_far object_at object_link l.goes_on l.found l.rest ≡ objects_at l.fn.tokens

abbrev pub decreases-loop-goes_on : goal.decreases-loop-goes_on
decreases-loop-goes_on l = length l.rest
