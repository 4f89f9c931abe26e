use Rattle.std.proofs.Common.{[], refl}
use Rattle.reads.proofs.Rising.{rises-name}
use Rattle.delta.proofs.delta.Delta.name_part.Goals as goal

pub from_sets-requires-clause-there : goal.from_sets-requires-clause-there
from_sets-requires-clause-there c = (rises-name [] _ c.args.name.now c.is_member.result refl c.in_ok-there.ensures).names

pub from_sets-requires-clause-gone : goal.from_sets-requires-clause-gone
from_sets-requires-clause-gone c = (rises-name [] _ c.args.name.now c.is_member-2.result refl c.in_ok-gone.ensures).names
