use Rattle.std.proofs.Common.{◌≡◌}
use Rattle.names.proofs.prefixes.Prefixes.keep.Given as goal

abbrev pub invariant-loop-node : goal.invariant-loop-node
invariant-loop-node l = l.self ≡ l.fn.self
