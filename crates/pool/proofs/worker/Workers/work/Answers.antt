use Rattle.shared.specs.Duty.{IsPassFor}
use Rattle.pool.specs.Shown.{TakeIsSeen}
use Rattle.pool.proofs.Seen.{both_watched, both_same}
use Rattle.pool.proofs.worker.Workers.work.Goals.{then-are_committed+else-front-self, else-are_committed}
use Rattle.pool.proofs.worker.Workers.work.Goals as goal

pub loop-preserved : goal.loop-preserved
loop-preserved g c =
    let both : IsPassFor c.args.self.now c.if-are_committed.pass × TakeIsSeen c.if-are_committed.pass c.in_ok-later.found = elim c.if-are_committed.branch [
      | then-are_committed+else-front-self w ↦ both_watched _ c.in_ok-later.later _ _ _ c.in_ok-later.ensures.pass c.in_ok-later.ensures.seen w.front.ensures.pass w.pass-is
      | else-are_committed w ↦ both_same _ c.in_ok-later.later _ _ c.in_ok-later.ensures.pass c.in_ok-later.ensures.seen w.pass-is
    ] in
    (tt, tt, both.0, both.1)
