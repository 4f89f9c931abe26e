use Rattle.std.proofs.Common.{◌∙◌, ap}
use Rattle.std.specs.Prelude.{filter}
use Rattle.datasets.specs.Id.{id_order}
use Rattle.datasets.specs.Dataset.{matches}
use Rattle.reads.specs.Reads.{View}
use Rattle.reads.proofs.Rising.{scan_rises, rises-scan}
use Rattle.reads.proofs.indexed.IndexedView.matching_part.Goals as goal

pub of_list-requires : goal.of_list-requires
of_list-requires c =
    scan_rises _ c.args.pattern.now c.args.self.now c.rises.ensures (c.in_ok-quads.ensures ∙ ap (λ (v : View). filter (matches id_order c.args.pattern.now) v.quads) c.self.view_is)

pub from_sets-requires : goal.from_sets-requires
from_sets-requires c =
    rises-scan _ _ c.args.pattern.now c.args.self.now c.rises.ensures
    (c.of_list.ensures ∙ c.in_ok-quads.ensures ∙ ap (λ (v : View). filter (matches id_order c.args.pattern.now) v.quads) c.self.view_is)
    c.new.ensures.items
