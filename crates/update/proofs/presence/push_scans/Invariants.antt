use Rattle.std.proofs.Common.{◌≡◌, ◌++◌, drop}
use Rattle.update.specs.Known.{scans_for_untold}
use Rattle.update.proofs.presence.push_scans.Given as goal

-- the scans so far, with those for the quads that are left, are those before and those for all
abbrev pub invariant-loop-quad : goal.invariant-loop-quad
invariant-loop-quad l = l.reads.items ++ scans_for_untold l.known (drop l.quad-index l.quads) ≡ l.fn.reads.items ++ scans_for_untold l.known l.quads
