use Rattle.delta.proofs.Equal.{delta_eq-true}
use Rattle.delta.proofs.laws.equal_deltas_are_one.Goals as goal

pub returns : goal.returns
returns c = delta_eq-true
