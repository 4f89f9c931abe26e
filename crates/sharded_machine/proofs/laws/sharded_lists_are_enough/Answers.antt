use Rattle.sharded_machine.proofs.Lists.{sharded_lists_are_enough}
use Rattle.sharded_machine.proofs.laws.sharded_lists_are_enough.Goals as goal

pub returns : goal.returns
returns c = sharded_lists_are_enough
