use Rattle.pool.proofs.Seen.{made_seen}
use Rattle.pool.proofs.worker.Workers.commit.Goals as goal

pub shown-reply-requires : goal.shown-reply-requires
shown-reply-requires g c = made_seen _ _ _ c.commit.result _ c.commit.ensures c.in_ok-reply.was
