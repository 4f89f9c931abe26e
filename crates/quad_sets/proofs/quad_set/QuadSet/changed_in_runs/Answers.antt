use Rattle.std.proofs.Common.{map, ◌++◌}
use Rattle.sets.specs.Sets.{without}
use Rattle.datasets.specs.Id.{id_order}
use Rattle.datasets.specs.Dataset.{quad_order}
use Rattle.quad_lists.specs.Known.{quad_of}
use Rattle.quad_sets.proofs.Sorted.{set_of_quads}
use Rattle.quad_sets.proofs.quad_set.QuadSet.changed_in_runs.Goals as goal

pub invariant_of-result : goal.invariant_of-result
invariant_of-result c =
    let w = c.in-Narrow-Narrow-Narrow in
    set_of_quads _ (without (quad_order id_order) (map quad_of w.known.now) (map quad_of w.going.now) ++ map quad_of w.coming.now) c.in_ok-after-in-Narrow-Narrow-Narrow.ensures
