use Rattle.std.proofs.Common.{◌≤◌, length}
use Rattle.version_overlay.proofs.joining.alike_run.Given as goal

abbrev pub invariant-loop-past : goal.invariant-loop-past
invariant-loop-past l = l.past ≤ length l.levels

abbrev pub decreases-loop-past : goal.decreases-loop-past
decreases-loop-past l = l.past
