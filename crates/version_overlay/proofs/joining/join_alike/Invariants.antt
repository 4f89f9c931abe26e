use Rattle.std.proofs.Common.{◌≡◌, ◌≤◌, ◌-◌, vec_len}
use Rattle.reads.specs.Reads.{View}
use Rattle.version_overlay.specs.Joined.{Joined}
use Rattle.version_overlay.specs.Settled.{changed_by}
use Rattle.version_overlay.proofs.joining.join_alike.Given as goal

abbrev pub invariant-loop-run : goal.invariant-loop-run
invariant-loop-run l = ((d : View) → changed_by l.levels.items d ≡ changed_by l.fn.levels.items d) × ((l.left ≤ 131072) × Joined l.fn.levels.items (131072 - l.left) l.levels.items)

abbrev pub decreases-loop-run : goal.decreases-loop-run
decreases-loop-run l = vec_len l.levels
