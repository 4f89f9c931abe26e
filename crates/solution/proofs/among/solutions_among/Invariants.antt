use Rattle.std.proofs.Common.{◌≡◌, filter_map, take}
use Rattle.datasets.specs.Id.{id_order}
use Rattle.meaning.specs.Solutions.{mapping_onto}
use Rattle.solution.proofs.among.solutions_among.Given as goal

abbrev pub invariant-loop-place : goal.invariant-loop-place
invariant-loop-place l = l.found.items ≡ filter_map (mapping_onto id_order l.width l.pattern) (take l.place l.quads)
