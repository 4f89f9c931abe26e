use Rattle.std.proofs.Common.{[], refl}
use Rattle.reads.proofs.Rising.{rises-sets}
use Rattle.delta.proofs.delta.Delta.from_parts.Goals as goal

pub from_sets-requires-clause-there : goal.from_sets-requires-clause-there
from_sets-requires-clause-there c = (rises-sets [] _ [] c.args.there.items refl c.set_of-there.ensures).names

pub from_sets-requires-clause-gone : goal.from_sets-requires-clause-gone
from_sets-requires-clause-gone c = (rises-sets [] _ [] c.args.gone.items refl c.set_of-gone.ensures).names
