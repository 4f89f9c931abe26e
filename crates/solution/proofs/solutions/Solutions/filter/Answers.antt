use Rattle.std.specs.Prelude.{map}
use Rattle.algebra.specs.Expressions.{expression_of}
use Rattle.meaning.specs.Solutions.{passes_all}
use Rattle.solution.proofs.Rising.{rises-filter}
use Rattle.solution.proofs.solutions.Solutions.filter.Goals as goal

pub invariant_of-result : goal.invariant_of-result
invariant_of-result g c =
    rises-filter _ (passes_all (g.F.Filters.passes c.args.by.now) (map expression_of c.args.filters.now)) _ c.self.invariant c.in_ok-mappings.ensures
