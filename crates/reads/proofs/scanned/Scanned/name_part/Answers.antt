use Rattle.reads.proofs.Rising.{rises-name}
use Rattle.reads.proofs.scanned.Scanned.name_part.Goals as goal

pub from_sets-requires : goal.from_sets-requires
from_sets-requires c = rises-name _ _ c.args.name.now c.has.result c.new.ensures c.in_ok-names.ensures
