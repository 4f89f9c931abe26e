use Rattle.sharded_machine.proofs.ShelvesAt.{shelves_are}
use Rattle.sharded_machine.proofs.laws.shelves_are_kept.Goals as goal

pub returns : goal.returns
returns c = shelves_are
