use Rattle.std.proofs.Common.{◌≡◌, ◌++◌, filter_map, drop}
use Rattle.std.specs.List.{flat_map}
use Rattle.datasets.specs.Id.{id_order}
use Rattle.meaning.specs.Mapping.{joined}
use Rattle.solution.specs.Lookups.{near}
use Rattle.solution.proofs.operators.joins.Given as goal

abbrev pub invariant-loop-a : goal.invariant-loop-a
invariant-loop-a l =
    l.found.items ++ flat_map (λ a. filter_map (joined id_order a) (near l.right.variables.items l.right.mappings.items l.right.loose.items a)) (drop l.a-index l.left)
    ≡ flat_map (λ a. filter_map (joined id_order a) (near l.right.variables.items l.right.mappings.items l.right.loose.items a)) l.left
