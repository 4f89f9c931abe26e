use Rattle.std.proofs.Common.{◌≡◌, ◌++◌, filter_map, drop, map}
use Rattle.std.specs.Prelude.{filter}
use Rattle.algebra.specs.Expressions.{expression_of}
use Rattle.datasets.specs.Id.{id_order}
use Rattle.meaning.specs.Mapping.{joined}
use Rattle.meaning.specs.Solutions.{passes_all}
use Rattle.solution.proofs.limited.push_merges.Given as goal

-- the merges so far and those with what is left are all
abbrev pub invariant-loop-b : goal.invariant-loop-b
invariant-loop-b g l =
    l.found.items ++ filter (passes_all (g.F.Filters.passes l.by) (map expression_of l.filters)) (filter_map (joined id_order l.a) (drop l.b-index l.others))
    ≡ l.fn.found.items ++ filter (passes_all (g.F.Filters.passes l.by) (map expression_of l.filters)) (filter_map (joined id_order l.a) l.others)
