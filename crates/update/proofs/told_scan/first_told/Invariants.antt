use Rattle.std.proofs.Common.{◌≡◌, drop}
use Rattle.update.specs.Told.{first_told}
use Rattle.update.proofs.told_scan.first_told.Given as goal

-- the scans so far tell nothing of the quad
abbrev pub invariant-loop-scan : goal.invariant-loop-scan
invariant-loop-scan l = first_told (drop l.scan-index l.scans) l.quad ≡ first_told l.scans l.quad
