use Rattle.std.proofs.Common.{◌≡◌, ◌++◌, length, string_bytes, IsUtf8}
use Rattle.lexer.specs.Strings.{IsEscaped, unescaped}
use Rattle.lexer.proofs.strings.unescaped.Given as goal

abbrev pub invariant-loop-before : goal.invariant-loop-before
invariant-loop-before l = (string_bytes l.value ++ unescaped l.rest ≡ unescaped l.fn.written) × IsEscaped l.rest × IsUtf8 l.rest

abbrev pub decreases-loop-before : goal.decreases-loop-before
decreases-loop-before l = length l.rest
