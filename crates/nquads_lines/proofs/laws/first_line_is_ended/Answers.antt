use Rattle.nquads_lines.proofs.Ends.{first_is_ended}
use Rattle.nquads_lines.proofs.laws.first_line_is_ended.Goals as goal

pub returns : goal.returns
returns c = first_is_ended c.runs_are_longest.ensures
