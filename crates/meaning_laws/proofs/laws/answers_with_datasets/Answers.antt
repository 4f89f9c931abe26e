use Rattle.meaning_laws.proofs.Answers.{answers_with_datasets}
use Rattle.meaning_laws.proofs.laws.answers_with_datasets.Goals as goal

pub returns : goal.returns
returns g c = answers_with_datasets
