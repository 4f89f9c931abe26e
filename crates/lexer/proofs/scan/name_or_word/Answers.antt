use Rattle.std.proofs.Common.{◌∙◌, sym}
use Rattle.lexer.proofs.TokenLaws.{word_read}
use Rattle.lexer.proofs.scan.name_or_word.Goals as goal

pub returns-then-text-edge : goal.returns-then-text-edge
returns-then-text-edge c = (λ i. (c.word_at.ensures.word i, c.word_at.ensures.rest i)) ∙ sym (word_read c.args.text.now c.args.edge c.requires c.if-text-edge.true)
