use Rattle.std.proofs.Common.{◌+◌, ◌≤◌, length, drop, vec_len, vec_capacity}
use Rattle.reads.proofs.Asking.{Went}
use Rattle.reads.proofs.source.Source.ask_all.Given as goal

-- the reads so far were asked for, and there is room for the notes of the others
abbrev pub invariant-loop-read : goal.invariant-loop-read
invariant-loop-read g l = record {
  went : Went g.Self.Source.asks l.fn.self l.reads (drop l.read-index l.reads) l.fn.notes.items l.notes.items l.self;
  room : vec_len l.notes + length l.reads ≤ vec_capacity l.notes + l.read-index;
}
