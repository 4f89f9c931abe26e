use Rattle.std.proofs.Common.{◌≡◌, ◌++◌, drop}
use Rattle.std.specs.List.Sorted.{IsStrictlySortedBy}
use Rattle.sets.specs.Sets.{without}
use Rattle.datasets.specs.Id.{id_order}
use Rattle.eval.proofs.lacking.names_outside.Given as goal

abbrev pub invariant-loop-name : goal.invariant-loop-name
invariant-loop-name l = record {
  set : IsStrictlySortedBy id_order l.set;
  kept : l.kept.items ++ without id_order (drop l.name-index l.names) l.set ≡ without id_order l.names l.set;
}
