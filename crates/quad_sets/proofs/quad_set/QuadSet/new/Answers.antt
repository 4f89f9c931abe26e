use Rattle.std.proofs.Common.{map, ap}
use Rattle.quad_lists.specs.Known.{quad_of}
use Rattle.quad_sets.proofs.Sorted.{no_quads}
use Rattle.quad_sets.proofs.quad_set.QuadSet.new.Goals as goal

pub invariant_of-result : goal.invariant_of-result
invariant_of-result c = no_quads _ (ap (map quad_of) c.new.ensures.items)
