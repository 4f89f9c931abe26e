use Rattle.std.specs.Prelude.{filter, not, ◌||◌}
use Rattle.std.specs.List.{list_all}
use Rattle.std.proofs.Common.{◌≡◌}
use Rattle.datasets.specs.Id.{id_order}
use Rattle.meaning.specs.Mapping.{compatible, shares}
use Rattle.solution.specs.Lookups.{near}
use Rattle.solution.proofs.operators.apart_from.Given as goal

abbrev pub invariant-loop-a : goal.invariant-loop-a
invariant-loop-a l =
    l.kept.items ≡ filter (λ a. list_all (λ b. not (compatible id_order a b) || not (shares a b)) (near l.right.variables.items l.right.mappings.items l.right.loose.items a)) l.yielded
