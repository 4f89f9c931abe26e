use Rattle.meaning_laws.proofs.Answers.{goes_on_by_one}
use Rattle.meaning_laws.proofs.laws.goes_on_by_one.Goals as goal

pub returns : goal.returns
returns g c = goes_on_by_one
