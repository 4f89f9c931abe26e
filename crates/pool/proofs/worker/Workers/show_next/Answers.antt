use Rattle.pool.proofs.Seen.{one_seen}
use Rattle.pool.proofs.worker.Workers.show_next.Goals as goal

pub shown-requires : goal.shown-requires
shown-requires g c = one_seen _ _ _ _ _ _ c.requires c.pop_front.ensures.items c.in-Some.is
