use Rattle.sharded_machine.proofs.Shelves.{part_since}
use Rattle.sharded_machine.proofs.laws.part_since_last_touch.Goals as goal

pub returns : goal.returns
returns c = part_since
