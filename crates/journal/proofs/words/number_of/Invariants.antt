use Rattle.std.proofs.Common.{◌≡◌, drop}
use Rattle.journal.specs.Words.{number_from}
use Rattle.journal.proofs.words.number_of.Given as goal

abbrev pub invariant-loop-digit : goal.invariant-loop-digit
invariant-loop-digit l = number_from l.number (drop l.digit-index l.digits) ≡ number_from 0 l.digits
