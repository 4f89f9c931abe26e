use Rattle.nquads_laws.proofs.Again.{again}
use Rattle.nquads_laws.proofs.read_and_written_again.Goals as goal

pub returns : goal.returns
returns c = again c.first_line_is_ended.ensures c.one_dataset.ensures
