use Rattle.std.proofs.Common.{◌≡◌, take}
use Rattle.terms.proofs.table.hashed.Given as goal

abbrev pub invariant-loop-term : goal.invariant-loop-term
invariant-loop-term l = l.set.keys ≡ take l.term-index l.terms
