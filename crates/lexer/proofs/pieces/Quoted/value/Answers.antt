use Rattle.std.proofs.Common.{sym}
use Rattle.lexer.proofs.StringLaws.{spelled_text}
use Rattle.lexer.proofs.pieces.Quoted.value.Goals as goal

pub returns-clause-form : goal.returns-clause-form
returns-clause-form c = spelled_text _ _ c.self.invariant.1 (sym c.self.view_is)
