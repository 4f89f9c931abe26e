use Rattle.std.proofs.Common.{length}
use Rattle.version_overlay.proofs.joining.+all_joined.Given as goal

abbrev pub decreases-all_joined : goal.decreases-all_joined
decreases-all_joined l = length l.levels.now
