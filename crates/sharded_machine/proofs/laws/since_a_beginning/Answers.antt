use Rattle.sharded_machine.proofs.Later.{since}
use Rattle.sharded_machine.proofs.laws.since_a_beginning.Goals as goal

pub returns : goal.returns
returns c = since c.equal_deltas_are_one.ensures
