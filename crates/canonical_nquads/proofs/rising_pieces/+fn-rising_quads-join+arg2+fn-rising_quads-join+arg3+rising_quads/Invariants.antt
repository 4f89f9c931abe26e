use Rattle.std.proofs.Common.{◌+◌, ◌*◌}
use Rattle.canonical_nquads.proofs.rising_pieces.+fn-rising_quads-join+arg2+fn-rising_quads-join+arg3+rising_quads.Given as goal

abbrev pub decreases-join+arg2 : goal.decreases-join+arg2
decreases-join+arg2 g l = 3

abbrev pub decreases-join+arg3 : goal.decreases-join+arg3
decreases-join+arg3 g l = 2 * l.others + 1

abbrev pub decreases-rising_quads : goal.decreases-rising_quads
decreases-rising_quads g l = 2 * l.threads
