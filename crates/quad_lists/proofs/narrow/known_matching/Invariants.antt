use Rattle.std.proofs.Common.{◌≡◌, map, take}
use Rattle.std.specs.Prelude.{filter}
use Rattle.datasets.specs.Id.{id_order}
use Rattle.datasets.specs.Dataset.{matches}
use Rattle.quad_lists.specs.Known.{quad_of}
use Rattle.quad_lists.proofs.narrow.known_matching.Given as goal

abbrev pub invariant-loop-entry : goal.invariant-loop-entry
invariant-loop-entry l = map quad_of l.found.items ≡ filter (matches id_order l.pattern) (map quad_of (take l.entry-index l.known))
