use Rattle.std.proofs.Common.{◌≡◌, length}
use Rattle.triples.specs.Reading.{blocks_at, blocks_behind}
use Rattle.triples.proofs.QuadLaws.{behind}
use Rattle.triples.proofs.quads.blocks_behind.Given as goal

abbrev pub invariant-loop-inside : goal.invariant-loop-inside
invariant-loop-inside l = behind l.found (blocks_at l.rest) ≡ blocks_behind l.fn.first l.fn.tokens

abbrev pub decreases-loop-inside : goal.decreases-loop-inside
decreases-loop-inside l = length l.rest
