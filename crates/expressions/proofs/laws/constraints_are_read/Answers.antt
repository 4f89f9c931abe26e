use Rattle.expressions.proofs.Constraints.{constraint_found, constraint_takes, constraint_again}
use Rattle.expressions.proofs.laws.constraints_are_read.Goals as goal

pub returns-clause-found : goal.returns-clause-found
returns-clause-found c = constraint_found

pub returns-clause-takes : goal.returns-clause-takes
returns-clause-takes c = constraint_takes

pub returns-clause-again : goal.returns-clause-again
returns-clause-again c = constraint_again
