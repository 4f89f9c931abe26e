use Rattle.std.proofs.Common.{◌≡◌, ◌++◌, drop}
use Rattle.shared.specs.InTurn.{questions}
use Rattle.pool.proofs.asker.scans_of_all.Given as goal

-- what was put so far, and what is left to put
abbrev pub invariant-loop-read : goal.invariant-loop-read
invariant-loop-read l = l.scans.items ++ questions l.base (drop l.read-index l.reads) ≡ questions l.base l.reads
