use Rattle.std.proofs.Common.{take, ◌+◌, Ok, true}
use Rattle.std.specs.declared.alloc.AllocError.{AllocError}
use Rattle.shared.specs.InTurn.{checking, Went}
use Rattle.shared.proofs.in_turn.make_checks.Given as goal

abbrev pub invariant-loop-note : goal.invariant-loop-note
invariant-loop-note l = Went {E = AllocError} l.pass l.fn.book l.book (take (l._note + 1) (checking l.i l.n l.notes)) l.fn.replies.items l.replies.items (Ok true)
