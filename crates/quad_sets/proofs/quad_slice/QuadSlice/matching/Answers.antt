use Rattle.std.proofs.Common.{◌∙◌}
use Rattle.datasets.specs.Id.{id_order}
use Rattle.datasets.specs.Dataset.{matches}
use Rattle.quad_sets.proofs.Sorted.{filter_of_quads}
use Rattle.quad_sets.proofs.quad_slice.QuadSlice.matching.Goals as goal

pub of_list-requires : goal.of_list-requires
of_list-requires c = filter_of_quads (matches id_order c.args.pattern.now) _ c.args.self.now (c.in_ok-found.ensures ∙ c.part_near.ensures) c.rises.ensures
