use Rattle.std.proofs.Common.{◌+◌, ◌*◌}
use Rattle.numbering.proofs.requests.+fn-number_requests_by-join+arg3+number_requests_by.Given as goal

abbrev pub decreases-join+arg3 : goal.decreases-join+arg3
decreases-join+arg3 g l = 2 * l.others + 1

abbrev pub decreases-number_requests_by : goal.decreases-number_requests_by
decreases-number_requests_by g l = 2 * l.threads
