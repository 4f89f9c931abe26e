use Rattle.std.proofs.Common.{take}
use Rattle.solution.proofs.NoneShared.{Narrow}
use Rattle.solution.proofs.disjoint.widest.Given as goal

abbrev pub invariant-loop-mapping : goal.invariant-loop-mapping
invariant-loop-mapping l = Narrow l.widest (take l.mapping-index l.mappings)
