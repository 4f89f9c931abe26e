use Rattle.nquads.proofs.PieceLaws.{united_turned}
use Rattle.nquads.proofs.pieces.more_first.Goals as goal

pub returns-then-parts : goal.returns-then-parts
returns-then-parts c = united_turned c.args.other c.args.one
