use Rattle.std.proofs.Common.{◌≡◌, ◌++◌, drop}
use Rattle.eval.specs.Scans.{scans_of}
use Rattle.eval.proofs.basic.scans_of.Given as goal

-- the scans so far, with those for the patterns that are left, are those for all
abbrev pub invariant-loop-pattern : goal.invariant-loop-pattern
invariant-loop-pattern l = l.scans.items ++ scans_of (drop l.pattern-index l.patterns) l.graph ≡ scans_of l.patterns l.graph
