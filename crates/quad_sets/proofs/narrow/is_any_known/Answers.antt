use Rattle.std.proofs.Common.{◌∙◌}
use Rattle.datasets.specs.Id.{id_order}
use Rattle.datasets.specs.Dataset.{matches}
use Rattle.quad_index.proofs.Sought.{any_by_part}
use Rattle.quad_sets.proofs.narrow.is_any_known.Goals as goal

pub returns : goal.returns
returns c = c.is_any_widened.ensures ∙ any_by_part (matches id_order c.args.pattern.now) _ _ c.part_of_known.ensures
