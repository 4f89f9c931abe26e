use Rattle.std.proofs.Common.{◌≡◌, map}
use Rattle.std.specs.Prelude.{filter}
use Rattle.algebra.specs.Expressions.{expression_of}
use Rattle.meaning.specs.Solutions.{passes_all}
use Rattle.solution.proofs.operators.passing.Given as goal

abbrev pub invariant-loop-mapping : goal.invariant-loop-mapping
invariant-loop-mapping g l = l.kept.items ≡ filter (passes_all (g.F.Filters.passes l.by) (map expression_of l.filters)) l.yielded
