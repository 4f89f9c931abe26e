use Rattle.std.proofs.Common.{rules, arith}
use Rattle.blocklock.proofs.Keeps.{deals}
use Rattle.blocklock.proofs.lock.BlockLock.deal.Goals as goal

pub split_seat-requires : goal.split_seat-requires
split_seat-requires g c = (search rules, search rules, deals _ _ _ _ _ _ _ c.requires.idle.0 c.requires.idle.1 (omega arith))
