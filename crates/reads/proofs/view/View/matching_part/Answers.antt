use Rattle.std.proofs.Common.{◌∙◌, ap}
use Rattle.std.specs.Prelude.{filter}
use Rattle.datasets.specs.Id.{id_order}
use Rattle.datasets.specs.Dataset.{matches}
use Rattle.reads.proofs.Rising.{rises-scan}
use Rattle.reads.proofs.view.View.matching_part.Goals as goal

pub invariant_of-result : goal.invariant_of-result
invariant_of-result c =
    rises-scan _ _ c.args.pattern.now c.args.self.now c.rises.ensures (c.in_ok-quads.ensures ∙ ap (filter (matches id_order c.args.pattern.now)) c.quads.ensures) c.new.ensures.items
