use Rattle.std.proofs.Common.{◌+◌, ◌*◌}
use Rattle.nquads.proofs.pieces.+fn-read_pieces-join+arg3+read_pieces.Given as goal

abbrev pub decreases-join+arg3 : goal.decreases-join+arg3
decreases-join+arg3 g l = 2 * l.others + 1

abbrev pub decreases-read_pieces : goal.decreases-read_pieces
decreases-read_pieces g l = 2 * l.threads
