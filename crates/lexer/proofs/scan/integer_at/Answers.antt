use Rattle.lexer.proofs.TokenLaws.{digits_made}
use Rattle.lexer.proofs.scan.integer_at.Goals as goal

pub new-requires : goal.new-requires
new-requires c = digits_made c.runs_are_longest.ensures c.args.text.now _ c.requires c.cut_digits.ensures.front
