use Rattle.sharded_machine.proofs.Lists.{noted_has_lists}
use Rattle.sharded_machine.proofs.laws.noted_has_lists.Goals as goal

pub returns : goal.returns
returns c = noted_has_lists
