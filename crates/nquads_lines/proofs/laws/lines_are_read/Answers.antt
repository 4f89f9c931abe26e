use Rattle.nquads_lines.proofs.LineLaws.{lines_are_read}
use Rattle.nquads_lines.proofs.laws.lines_are_read.Goals as goal

pub returns : goal.returns
returns c = lines_are_read c.runs_are_longest.ensures
