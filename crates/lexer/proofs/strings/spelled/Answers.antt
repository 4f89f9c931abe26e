use Rattle.lexer.proofs.StringLaws.{letter_stays}
use Rattle.lexer.proofs.strings.spelled.Goals as goal

pub returns-in_default : goal.returns-in_default
returns-in_default c = letter_stays _ c.requires c.in_default.not-t c.in_default.not-b c.in_default.not-n c.in_default.not-r c.in_default.not-f
