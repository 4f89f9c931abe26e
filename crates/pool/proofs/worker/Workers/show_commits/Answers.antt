use Rattle.std.proofs.Common.{arith}
use Rattle.pool.proofs.Seen.{commit_seen, first_seen, others_seen}
use Rattle.pool.proofs.worker.Workers.show_commits.Goals as goal

pub show_next-reply-requires : goal.show_next-reply-requires
show_next-reply-requires g c = first_seen _ _ _ _ (commit_seen _ c.loop-next.next _ _ (omega arith) c.loop-next.invariant)

pub loop-next-preserved : goal.loop-next-preserved
loop-next-preserved g c = others_seen _ _ _ _ _ (commit_seen _ c.loop-next.next _ _ (omega arith) c.loop-next.invariant) c.show_next-reply.ensures
