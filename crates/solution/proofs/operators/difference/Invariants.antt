use Rattle.std.specs.Prelude.{filter, not, ◌&&◌}
use Rattle.std.specs.List.{list_all}
use Rattle.std.proofs.Common.{◌≡◌, map}
use Rattle.algebra.specs.Expressions.{expression_of}
use Rattle.datasets.specs.Id.{id_order}
use Rattle.meaning.specs.Mapping.{compatible, merge}
use Rattle.meaning.specs.Solutions.{passes_all}
use Rattle.solution.specs.Lookups.{near}
use Rattle.solution.proofs.operators.difference.Given as goal

abbrev pub invariant-loop-a : goal.invariant-loop-a
invariant-loop-a g l =
    l.kept.items
    ≡ filter (λ a. list_all (λ b. not (compatible id_order a b && passes_all (g.F.Filters.passes l.by) (map expression_of l.filters) (merge a b))) (near l.right.variables.items l.right.mappings.items l.right.loose.items a)) l.yielded
