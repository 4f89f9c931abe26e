use Rattle.std.proofs.Common.{subst}
use Rattle.datasets.specs.Id.{id_order}
use Rattle.change_laws.specs.Laws.{IsRising}
use Rattle.reads.specs.Reads.{View}
use Rattle.reads.proofs.indexed.IndexedView.rises.Goals as goal

pub returns : goal.returns
returns c =
    subst (λ (d : View). IsRising id_order d) c.self.view_is
    (record { quads = c.rises.ensures; names = c.rises-2.ensures.names })
