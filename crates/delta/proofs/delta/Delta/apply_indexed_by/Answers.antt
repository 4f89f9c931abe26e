use Rattle.std.proofs.Common.{◌++◌}
use Rattle.sets.specs.Sets.{without}
use Rattle.datasets.specs.Id.{id_order}
use Rattle.datasets.specs.Dataset.{quad_order}
use Rattle.reads.proofs.Rising.{rises-sets}
use Rattle.delta.proofs.delta.Delta.apply_indexed_by.Goals as goal

pub from_pieces-requires : goal.from_pieces-requires
from_pieces-requires g c =
    rises-sets _ _ (without (quad_order id_order) c.quads-own.result c.absent-going.result ++ c.present-coming.result)
    (without id_order c.in_ok-there.there.items c.gone.result.now ++ c.there.result.now) c.in_ok-quads.ensures c.in_ok-names.ensures
