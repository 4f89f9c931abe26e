use Rattle.replay.proofs.Going.{IsBegun}
use Rattle.replay.proofs.replaying.follow_lines.Given as goal

abbrev pub invariant-loop-line : goal.invariant-loop-line
invariant-loop-line l = IsBegun l.fn.book.terms l.fn.book.base l.fn.book.block l.lines l.book l.line-index
