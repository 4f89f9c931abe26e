use Rattle.std.proofs.Common.{◌≡◌, ◌++◌, filter_map, drop, map}
use Rattle.std.specs.Prelude.{filter}
use Rattle.std.specs.List.{flat_map}
use Rattle.algebra.specs.Expressions.{expression_of}
use Rattle.datasets.specs.Id.{id_order}
use Rattle.meaning.specs.Mapping.{mapping_cmp, joined}
use Rattle.meaning.specs.Solutions.{passes_all}
use Rattle.sets.specs.Sets.{set_of}
use Rattle.solution.specs.Lookups.{near}
use Rattle.solution.proofs.limited.joins_up_to.Given as goal

-- the merges so far and those of what is left are as a set all
abbrev pub invariant-loop-a : goal.invariant-loop-a
invariant-loop-a g l =
    set_of (mapping_cmp id_order) (l.found.items ++ flat_map (λ a. filter (passes_all (g.F.Filters.passes l.by) (map expression_of l.filters)) (filter_map (joined id_order a) (near l.right.variables.items l.right.mappings.items l.right.loose.items a))) (drop l.a-index l.left))
    ≡ set_of (mapping_cmp id_order) (flat_map (λ a. filter (passes_all (g.F.Filters.passes l.by) (map expression_of l.filters)) (filter_map (joined id_order a) (near l.right.variables.items l.right.mappings.items l.right.loose.items a))) l.left)
