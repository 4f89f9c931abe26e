use Rattle.std.proofs.Common.{◌-◌}
use Rattle.shared.specs.InTurn.{committing}
use Rattle.pool.specs.Shown.{AreSeen}
use Rattle.pool.proofs.worker.Workers.show_commits.Given as goal

-- the commits that are left
abbrev pub invariant-loop-next : goal.invariant-loop-next
invariant-loop-next g l = AreSeen l.pass l.replies.items (committing l.next l.until)

abbrev pub decreases-loop-next : goal.decreases-loop-next
decreases-loop-next g l = l.until - l.next
