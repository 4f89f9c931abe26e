use Rattle.solution.proofs.Rising.{rises-set}
use Rattle.solution.proofs.solutions.Solutions.from_mappings.Goals as goal

pub invariant_of-result : goal.invariant_of-result
invariant_of-result c = rises-set _ c.args.mappings.items c.set_of.ensures
