use Rattle.std.proofs.Common.{◌≡◌, ◌≤◌, ◌+◌}
use Rattle.std.specs.List.{slice_range}
use Rattle.version_overlay.specs.Joined.{size_of_all}
use Rattle.version_overlay.proofs.joining.run_before.Given as goal

abbrev pub invariant-loop-first : goal.invariant-loop-first
invariant-loop-first l = (l.first ≤ l.past) × (size_of_all (slice_range l.levels l.first l.past) + l.left ≡ l.room)

abbrev pub decreases-loop-first : goal.decreases-loop-first
decreases-loop-first l = l.first
