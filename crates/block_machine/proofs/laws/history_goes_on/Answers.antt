use Rattle.block_machine.proofs.Theorem.{one_more}
use Rattle.block_machine.proofs.laws.history_goes_on.Goals as goal

pub returns : goal.returns
returns c = one_more
