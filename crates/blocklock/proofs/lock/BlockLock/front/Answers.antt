use Rattle.blocklock.proofs.Closing.{watches}
use Rattle.blocklock.proofs.lock.BlockLock.front.Goals as goal

pub returns-clause-pass : goal.returns-clause-pass
returns-clause-pass g c = watches g.B.Journaled.worker_of c.args.pass.now c.hold-held.new.pass c.give.new.pass (g.B.Journaled.history c.hold-held.result.book.value) c.hold-held.ensures.1 c.give.ensures
