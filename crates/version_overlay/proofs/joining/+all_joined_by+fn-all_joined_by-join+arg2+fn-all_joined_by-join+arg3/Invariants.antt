use Rattle.std.proofs.Common.{◌+◌, ◌*◌, length}
use Rattle.version_overlay.proofs.joining.+all_joined_by+fn-all_joined_by-join+arg2+fn-all_joined_by-join+arg3.Given as goal

abbrev pub decreases-all_joined_by : goal.decreases-all_joined_by
decreases-all_joined_by g l = 2 * length l.levels.now

abbrev pub decreases-join+arg2 : goal.decreases-join+arg2
decreases-join+arg2 g l = 2 * length l.rest.now + 1

abbrev pub decreases-join+arg3 : goal.decreases-join+arg3
decreases-join+arg3 g l = 2 * length l.first.now + 1
