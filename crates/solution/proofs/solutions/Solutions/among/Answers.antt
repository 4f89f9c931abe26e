use Rattle.std.specs.Prelude.{filter_map}
use Rattle.datasets.specs.Id.{id_order}
use Rattle.meaning.specs.Solutions.{mapping_onto}
use Rattle.solution.proofs.Rising.{rises-set}
use Rattle.solution.proofs.solutions.Solutions.among.Goals as goal

pub invariant_of-result : goal.invariant_of-result
invariant_of-result c = rises-set _ (filter_map (mapping_onto id_order c.args.width c.args.pattern.now) c.args.quads.now) c.in_ok-mappings.ensures
