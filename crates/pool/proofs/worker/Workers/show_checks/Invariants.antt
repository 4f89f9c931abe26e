use Rattle.std.proofs.Common.{◌++◌}
use Rattle.std.specs.Prelude.{replicate}
use Rattle.incarnations.specs.declared.state.Event.TheVariants.{Check}
use Rattle.shared.specs.InTurn.{committing}
use Rattle.pool.specs.Shown.{AreSeen}
use Rattle.pool.proofs.worker.Workers.show_checks.Given as goal

-- the checks that are left, and then the commits
abbrev pub invariant-loop-left : goal.invariant-loop-left
invariant-loop-left g l = AreSeen l.pass l.replies.items (replicate l.left (Check l.place l.incarnation) ++ committing l.place l.until)

abbrev pub decreases-loop-left : goal.decreases-loop-left
decreases-loop-left g l = l.left
