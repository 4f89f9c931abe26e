use Rattle.std.proofs.Common.{true, false, sym, ◌∙◌}
use Rattle.expr.proofs.ReadingLaws.{typed_told}
use Rattle.expr.proofs.reading.typed_read.Goals as goal

pub returns-then-is_text-3 : goal.returns-then-is_text-3
returns-then-is_text-3 c =
    c.boolean_read.ensures
    ∙ typed_told c.args.lexical.now c.args.datatype.now false false true (sym c.is_text.ensures ∙ c.if-is_text.false) (sym c.is_text-2.ensures ∙ c.if-is_text-2.false) (sym c.is_text-3.ensures ∙ c.if-is_text-3.true)

pub returns : goal.returns
returns c =
    typed_told c.args.lexical.now c.args.datatype.now false false false (sym c.is_text.ensures ∙ c.if-is_text.false) (sym c.is_text-2.ensures ∙ c.if-is_text-2.false) (sym c.is_text-3.ensures ∙ c.if-is_text-3.false)
