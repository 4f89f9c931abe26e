use Rattle.std.proofs.Common.{length, ◌+◌, ◌*◌}
use Rattle.pool.proofs.crew.+Crew-work+fn-Crew-work-join+arg2+fn-Crew-work-join+arg3.Given as goal

abbrev pub decreases-Crew::work : goal.decreases-Crew::work
decreases-Crew::work g l = 2 * length l.self.seats.items

abbrev pub decreases-join+arg2 : goal.decreases-join+arg2
decreases-join+arg2 g l = 2 * length l.last.seats.items + 1

abbrev pub decreases-join+arg3 : goal.decreases-join+arg3
decreases-join+arg3 g l = 2 * length l.others.seats.items + 1
