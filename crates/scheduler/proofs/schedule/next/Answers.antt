use Rattle.std.proofs.Common.{refl}
use Rattle.book.specs.Run.{state_of}
use Rattle.scheduler.proofs.Tasks.{next_some}
use Rattle.scheduler.proofs.schedule.next.Goals as goal

pub returns : goal.returns
returns c =
    next_some (state_of c.args.book.now) (state_of c.args.book.now).slots c.front-front.result refl c.front-front.ensures.front c.front-front.ensures.committed c.can_commit.result c.can_commit.ensures c.if-can_commit.false
    c.in_ok-place.place c.work_at.result c.in_ok-place.ensures.some c.work_at.ensures
