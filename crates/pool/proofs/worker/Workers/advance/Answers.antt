use Rattle.pool.proofs.Seen.{took_seen}
use Rattle.pool.proofs.worker.Workers.advance.Goals as goal

pub follow-requires-clause-seen : goal.follow-requires-clause-seen
follow-requires-clause-seen g c = took_seen _ _ _ c.take_next.result _ c.take_next.ensures c.in_ok-next.was
