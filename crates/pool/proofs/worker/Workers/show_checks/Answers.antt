use Rattle.std.proofs.Common.{arith}
use Rattle.pool.proofs.Seen.{check_seen, first_seen, others_seen}
use Rattle.pool.proofs.worker.Workers.show_checks.Goals as goal

pub show_next-reply-requires : goal.show_next-reply-requires
show_next-reply-requires g c = first_seen _ _ _ _ (check_seen _ c.loop-left.left _ _ _ (omega arith) c.loop-left.invariant)

pub loop-left-preserved : goal.loop-left-preserved
loop-left-preserved g c = others_seen _ _ _ _ _ (check_seen _ c.loop-left.left _ _ _ (omega arith) c.loop-left.invariant) c.show_next-reply.ensures
