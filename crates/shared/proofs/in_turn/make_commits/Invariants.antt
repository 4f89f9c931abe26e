use Rattle.std.proofs.Common.{take, ◌-◌, Ok, true}
use Rattle.std.specs.declared.alloc.AllocError.{AllocError}
use Rattle.shared.specs.InTurn.{committing, Went}
use Rattle.shared.proofs.in_turn.make_commits.Given as goal

abbrev pub invariant-loop-place : goal.invariant-loop-place
invariant-loop-place l = Went {E = AllocError} l.pass l.fn.book l.book (take (l.place - l.i) (committing l.i l.until)) l.fn.replies.items l.replies.items (Ok true)
