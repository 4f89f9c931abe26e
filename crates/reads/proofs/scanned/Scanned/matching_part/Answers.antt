use Rattle.std.proofs.Common.{◌∙◌}
use Rattle.reads.proofs.Rising.{scan_rises, rises-scan}
use Rattle.reads.proofs.scanned.Scanned.matching_part.Goals as goal

pub of_list-requires : goal.of_list-requires
of_list-requires c = scan_rises _ c.args.pattern.now c.args.self.now.dataset c.rises.ensures c.in_ok-quads.ensures

pub from_sets-requires : goal.from_sets-requires
from_sets-requires c = rises-scan _ _ c.args.pattern.now c.args.self.now.dataset c.rises.ensures (c.of_list.ensures ∙ c.in_ok-quads.ensures) c.new.ensures.items
