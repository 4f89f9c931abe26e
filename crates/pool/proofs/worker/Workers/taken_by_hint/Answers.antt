use Rattle.pool.proofs.Seen.{hint_seen}
use Rattle.pool.proofs.worker.Workers.taken_by_hint.Goals as goal

pub returns-in_ok-reply-in-Take-clause-seen : goal.returns-in_ok-reply-in-Take-clause-seen
returns-in_ok-reply-in-Take-clause-seen g c = hint_seen _ _ _ _ c.take.result _ c.in-Take.is c.take.ensures c.in_ok-reply-in-Take.was
