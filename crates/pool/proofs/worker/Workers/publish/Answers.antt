use Rattle.pool.proofs.Seen.{take_stays}
use Rattle.pool.proofs.worker.Workers.publish.Goals as goal

pub returns-clause-seen : goal.returns-clause-seen
returns-clause-seen g c = take_stays _ _ _ c.give_up.ensures.seen c.in_ok-is_published.ensures.seen
