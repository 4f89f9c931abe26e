use Rattle.std.proofs.Common.{◌≡◌, ◌≤◌, length, false}
use Rattle.lexer.specs.Reading.{tag_end}
use Rattle.lexer.proofs.tags.tag_end.Given as goal

abbrev pub invariant-loop-rest : goal.invariant-loop-rest
invariant-loop-rest l = (tag_end l.later l.rest ≡ tag_end false l.fn.text) × (length l.rest ≤ length l.fn.text)

abbrev pub decreases-loop-rest : goal.decreases-loop-rest
decreases-loop-rest l = length l.rest
