use Rattle.nquads_lines.proofs.TermLaws.{object_again}
use Rattle.nquads_lines.proofs.laws.objects_are_read.Goals as goal

pub returns : goal.returns
returns c text rest x at = object_again c.runs_are_longest.ensures at
