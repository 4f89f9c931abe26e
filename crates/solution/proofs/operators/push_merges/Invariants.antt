use Rattle.std.proofs.Common.{◌≡◌, ◌++◌, filter_map, drop}
use Rattle.datasets.specs.Id.{id_order}
use Rattle.meaning.specs.Mapping.{joined}
use Rattle.solution.proofs.operators.push_merges.Given as goal

-- the merges so far and those with what is left are all
abbrev pub invariant-loop-b : goal.invariant-loop-b
invariant-loop-b l =
    l.found.items ++ filter_map (joined id_order l.a) (drop l.b-index l.others)
    ≡ l.fn.found.items ++ filter_map (joined id_order l.a) l.others
