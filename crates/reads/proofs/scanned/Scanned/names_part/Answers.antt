use Rattle.std.proofs.Common.{◌∙◌}
use Rattle.reads.proofs.Rising.{rises-names}
use Rattle.reads.proofs.scanned.Scanned.names_part.Goals as goal

pub from_sets-requires : goal.from_sets-requires
from_sets-requires c =
    rises-names _ _ c.args.self.now.dataset c.rises.ensures c.new.ensures (c.in_ok-names.ensures ∙ c.names.ensures)
