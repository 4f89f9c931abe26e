use Rattle.std.proofs.Common.{map, string_bytes}
use Rattle.sparql_block.proofs.Workers.{in_range}
use Rattle.sparql_block.proofs.answer.Goals as goal

pub done-requires-clause-workers : goal.done-requires-clause-workers
done-requires-clause-workers g c _ _ = in_range (map string_bytes c.as_slice.result.now) c.in-Ok-read_job.job c.in-Ok-read_job.ensures
