use Rattle.block_machine.proofs.Fronts.{front_never_falls}
use Rattle.block_machine.proofs.laws.front_never_falls.Goals as goal

pub returns : goal.returns
returns c = front_never_falls
