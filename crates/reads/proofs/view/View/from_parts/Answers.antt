use Rattle.std.proofs.Common.{◌∙◌}
use Rattle.reads.proofs.Rising.{set_rises, rises-sets}
use Rattle.reads.proofs.view.View.from_parts.Goals as goal

pub of_list-requires : goal.of_list-requires
of_list-requires c = set_rises _ c.args.quads c.into_set.ensures

pub invariant_of-result : goal.invariant_of-result
invariant_of-result c = rises-sets _ _ c.args.quads c.args.names.items (c.of_list.ensures ∙ c.into_set.ensures) c.set_of.ensures
