use Rattle.meaning_laws.proofs.BasicPatterns.{joins_are_solutions}
use Rattle.meaning_laws.proofs.laws.joins_are_solutions.Goals as goal

pub returns : goal.returns
returns g c = joins_are_solutions
