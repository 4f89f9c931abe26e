use Rattle.std.proofs.Common.{◌∙◌}
use Rattle.datasets.specs.Id.{id_order}
use Rattle.datasets.specs.Dataset.{matches}
use Rattle.quad_index.proofs.Sought.{any_by_part}
use Rattle.quad_index.proofs.any_in_set.is_any_in_set.Goals as goal

pub returns : goal.returns
returns c = c.is_any_matching.ensures ∙ any_by_part (matches id_order c.args.pattern.now) _ _ c.part_of_set.ensures
