use Rattle.std.proofs.Common.{◌+◌, ◌*◌}
use Rattle.quad_sets.proofs.pieces.+changed_in_pieces+fn-changed_in_pieces-join+arg3.Given as goal

abbrev pub decreases-changed_in_pieces : goal.decreases-changed_in_pieces
decreases-changed_in_pieces g l = 2 * l.threads

abbrev pub decreases-join+arg3 : goal.decreases-join+arg3
decreases-join+arg3 g l = 2 * l.others + 1
