use Rattle.nquads_laws.proofs.SpelledAgain.{spelled_again}
use Rattle.nquads_laws.proofs.Labels.{named_apart}
use Rattle.nquads_laws.proofs.spells_again.Goals as goal

pub returns-clause-spelled : goal.returns-clause-spelled
returns-clause-spelled c = spelled_again c.first_line_is_ended.ensures c.one_dataset.ensures

pub returns-clause-apart : goal.returns-clause-apart
returns-clause-apart c = named_apart c.runs_are_longest.ensures
