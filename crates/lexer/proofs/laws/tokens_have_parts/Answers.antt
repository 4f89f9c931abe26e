use Rattle.lexer.proofs.IriLaws.{tokens_have_parts}
use Rattle.lexer.proofs.laws.tokens_have_parts.Goals as goal

pub returns : goal.returns
returns c = tokens_have_parts
