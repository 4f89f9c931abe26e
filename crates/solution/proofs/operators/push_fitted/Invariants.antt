use Rattle.std.proofs.Common.{◌≡◌, ◌++◌, filter_map}
use Rattle.datasets.specs.Id.{id_order}
use Rattle.meaning.specs.Mapping.{fitted}
use Rattle.solution.proofs.operators.push_fitted.Given as goal

abbrev pub invariant-loop-mapping : goal.invariant-loop-mapping
invariant-loop-mapping l = l.found.items ≡ l.fn.found.items ++ filter_map (fitted id_order l.place l.term) l.yielded
