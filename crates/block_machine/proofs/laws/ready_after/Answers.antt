use Rattle.block_machine.proofs.Ready.{ready_after}
use Rattle.block_machine.proofs.Theorem.{invariant_after}
use Rattle.block_machine.proofs.laws.ready_after.Goals as goal

pub returns : goal.returns
returns c = λ m history ok lawful. ready_after m history (invariant_after c.equal_deltas_are_one.ensures m ok history lawful) ok lawful
