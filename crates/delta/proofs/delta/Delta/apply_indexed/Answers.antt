use Rattle.std.proofs.Common.{◌++◌}
use Rattle.sets.specs.Sets.{without}
use Rattle.datasets.specs.Id.{id_order}
use Rattle.datasets.specs.Dataset.{quad_order}
use Rattle.reads.proofs.Rising.{rises-sets}
use Rattle.delta.proofs.delta.Delta.apply_indexed.Goals as goal

pub from_sets-requires : goal.from_sets-requires
from_sets-requires c =
    rises-sets _ _ (without (quad_order id_order) c.quads.result c.absent.result ++ c.present.result)
    (without id_order c.in_ok-own.own.items c.gone.result.now ++ c.there.result.now) c.in_ok-quads.ensures c.in_ok-names.ensures
