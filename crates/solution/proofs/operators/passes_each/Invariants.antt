use Rattle.std.proofs.Common.{◌≡◌, drop, map}
use Rattle.algebra.specs.Expressions.{expression_of}
use Rattle.meaning.specs.Solutions.{passes_all}
use Rattle.solution.proofs.operators.passes_each.Given as goal

abbrev pub invariant-loop-filter : goal.invariant-loop-filter
invariant-loop-filter g l =
    passes_all (g.F.Filters.passes l.by) (map expression_of (drop l.filter-index l.filters)) l.mapping
    ≡ passes_all (g.F.Filters.passes l.by) (map expression_of l.filters) l.mapping
