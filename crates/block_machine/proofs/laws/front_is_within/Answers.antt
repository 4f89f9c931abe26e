use Rattle.std.proofs.Common.{arith}
use Rattle.block_machine.proofs.Theorem.{invariant_after}
use Rattle.block_machine.proofs.laws.front_is_within.Goals as goal

pub returns-clause-slots : goal.returns-clause-slots
returns-clause-slots c = λ m history ok lawful. (invariant_after c.equal_deltas_are_one.ensures m ok history lawful).size

pub returns-clause-front : goal.returns-clause-front
returns-clause-front c = λ m history ok lawful.
    (let inv = invariant_after c.equal_deltas_are_one.ensures m ok history lawful in let within = inv.within in let size = inv.size in omega (arith, within, size))
