use Rattle.sharded_machine.proofs.ShelvesAt.{found_in_part}
use Rattle.sharded_machine.proofs.laws.found_in_a_part.Goals as goal

pub returns : goal.returns
returns c = found_in_part
