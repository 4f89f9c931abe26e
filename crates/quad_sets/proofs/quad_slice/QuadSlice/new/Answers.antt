use Rattle.sets.proofs.SetLaws.{sorted-empty}
use Rattle.datasets.specs.Id.{id_order}
use Rattle.datasets.specs.Dataset.{quad_order}
use Rattle.quad_sets.proofs.quad_slice.QuadSlice.new.Goals as goal

pub invariant_of-result : goal.invariant_of-result
invariant_of-result c = sorted-empty (quad_order id_order)
