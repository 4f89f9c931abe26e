use Rattle.std.proofs.Common.{◌≡◌, ◌≤◌, length, false}
use Rattle.lexer.specs.Reading.{string_end}
use Rattle.lexer.proofs.strings.string_end.Given as goal

abbrev pub invariant-loop-rest : goal.invariant-loop-rest
invariant-loop-rest l = (string_end l.quote l.escaped l.rest ≡ string_end l.quote false l.fn.text) × (length l.rest ≤ length l.fn.text)

abbrev pub decreases-loop-rest : goal.decreases-loop-rest
decreases-loop-rest l = length l.rest
