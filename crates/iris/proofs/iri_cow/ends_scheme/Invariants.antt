use Rattle.std.proofs.Common.{◌≡◌, true, length}
use Rattle.std.specs.List.{list_all}
use Rattle.iris.specs.Iri.{is_iri_byte, after_first}
use Rattle.iris.proofs.iri_cow.ends_scheme.Given as goal

abbrev pub invariant-loop-rest : goal.invariant-loop-rest
invariant-loop-rest l = (after_first l.rest ≡ after_first l.fn.bytes) × (list_all is_iri_byte l.rest ≡ true)

abbrev pub decreases-loop-rest : goal.decreases-loop-rest
decreases-loop-rest l = length l.rest
