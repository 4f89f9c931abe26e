use Rattle.sharded_machine.proofs.Beginnings.{beginning_is_history, sharded_beginning_is_history}
use Rattle.sharded_machine.proofs.laws.beginning_is_history.Goals as goal

pub returns-clause-whole : goal.returns-clause-whole
returns-clause-whole c = beginning_is_history

pub returns-clause-sharded : goal.returns-clause-sharded
returns-clause-sharded c = sharded_beginning_is_history
