use Rattle.std.proofs.Common.{take, Ok, true}
use Rattle.std.specs.declared.alloc.AllocError.{AllocError}
use Rattle.shared.specs.InTurn.{reading, Went}
use Rattle.shared.proofs.in_turn.make_reads.Given as goal

abbrev pub invariant-loop-k : goal.invariant-loop-k
invariant-loop-k l = Went {E = AllocError} l.pass l.fn.book l.book (take l.k (reading l.i l.n l.reads)) l.fn.replies.items l.replies.items (Ok true)
