use Rattle.solution.proofs.Rising.{rises-none}
use Rattle.solution.proofs.solutions.Solutions.none.Goals as goal

pub invariant_of-result : goal.invariant_of-result
invariant_of-result c = rises-none _ c.new.ensures.items
