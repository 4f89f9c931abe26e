use Rattle.translation_laws.proofs.VariableLaws.{basic_patterns_solved}
use Rattle.translation_laws.proofs.laws.basic_patterns_are_solved.Goals as goal

pub returns : goal.returns
returns c = basic_patterns_solved c.joins_are_solutions.ensures
