use Rattle.std.proofs.Common.{[], refl}
use Rattle.reads.proofs.Rising.{rises-nothing}
use Rattle.delta.proofs.delta.Delta.matching_part.Goals as goal

pub from_sets-requires-clause-there : goal.from_sets-requires-clause-there
from_sets-requires-clause-there c = (rises-nothing [] _ refl c.new.ensures.items).names

pub from_sets-requires-clause-gone : goal.from_sets-requires-clause-gone
from_sets-requires-clause-gone c = (rises-nothing [] _ refl c.new-2.ensures.items).names
