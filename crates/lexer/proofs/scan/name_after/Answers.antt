use Rattle.lexer.proofs.TokenLaws.{local_is}
use Rattle.lexer.proofs.scan.name_after.Goals as goal

pub new-requires-2 : goal.new-requires-2
new-requires-2 c = local_is c.runs_are_longest.ensures _ _ c.local_at.ensures.local
