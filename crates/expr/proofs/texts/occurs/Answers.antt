use Rattle.expr.proofs.TextLaws.{occurs}
use Rattle.expr.proofs.texts.occurs.Goals as goal

pub returns : goal.returns
returns c = occurs c.contains.result c.args.part.now c.args.text.now c.contains.ensures.cases
