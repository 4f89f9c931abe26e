use Rattle.pool.proofs.Seen.{made_seen}
use Rattle.pool.proofs.worker.Workers.check.Goals as goal

pub shown-reply-requires : goal.shown-reply-requires
shown-reply-requires g c = made_seen _ _ _ c.check.result _ c.check.ensures c.in_ok-reply.was
