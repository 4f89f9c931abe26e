use Rattle.std.proofs.Common.{sym, ap, ◌∙◌}
use Rattle.sets.specs.Sets.{without}
use Rattle.datasets.specs.Id.{id_order}
use Rattle.datasets.specs.Dataset.{quad_order}
use Rattle.quad_sets.proofs.Lacking.{without_none}
use Rattle.quad_sets.proofs.quad_slice.QuadSlice.lacked.Goals as goal

pub returns-then-is_empty : goal.returns-then-is_empty
returns-then-is_empty c = sym (ap (without (quad_order id_order) c.args.quads.items) (c.is_empty.ensures.0 c.if-is_empty.true) ∙ without_none (quad_order id_order) c.args.quads.items)
