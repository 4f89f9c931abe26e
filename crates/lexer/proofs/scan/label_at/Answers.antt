use Rattle.std.proofs.Common.{sym}
use Rattle.lexer.proofs.TokenLaws.{label_made}
use Rattle.lexer.proofs.scan.label_at.Goals as goal

pub new-requires : goal.new-requires
new-requires c = label_made c.runs_are_longest.ensures _ _ c.in-len1-up.len_at_least (sym c.if-is_variable_byte.ensures) c.cut_variable.ensures.front
