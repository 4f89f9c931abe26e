use Rattle.sharded_machine.proofs.Shelves.{untouched_part, untouched_last, touched_last}
use Rattle.sharded_machine.proofs.laws.touches_tell.Goals as goal

pub returns-clause-kept : goal.returns-clause-kept
returns-clause-kept c = untouched_part

pub returns-clause-last : goal.returns-clause-last
returns-clause-last c = untouched_last

pub returns-clause-ends : goal.returns-clause-ends
returns-clause-ends c = touched_last
