use Rattle.pool.proofs.Seen.{made_seen, made_stays}
use Rattle.pool.proofs.worker.Workers.give_up.Goals as goal

pub shown-requires : goal.shown-requires
shown-requires g c = made_seen _ _ _ c.give_up.result _ c.give_up.ensures c.in_ok-reply.was

pub returns-in_err-reply-clause-seen : goal.returns-in_err-reply-clause-seen
returns-in_err-reply-clause-seen g c = made_stays _ _ _ c.give_up.result c.give_up.ensures

pub returns-clause-seen : goal.returns-clause-seen
returns-clause-seen g c = made_stays _ _ _ c.give_up.result c.give_up.ensures
