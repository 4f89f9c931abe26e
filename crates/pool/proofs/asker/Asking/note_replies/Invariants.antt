use Rattle.std.proofs.Common.{◌+◌, ◌≤◌, length, vec_len, vec_capacity}
use Rattle.shared.specs.Calls.{Viewed}
use Rattle.shared.specs.InTurn.{InTurn, reading}
use Rattle.pool.specs.Shown.{AreSeen}
use Rattle.pool.proofs.AskingAll.{Along}
use Rattle.pool.proofs.asker.Asking.note_replies.Given as goal

-- what was noted is what the replies so far tell, there is room for the notes of the reads that are
-- left, and the pass has seen their replies
abbrev pub invariant-loop-replies : goal.invariant-loop-replies
invariant-loop-replies g l = record {
  along : (old : Viewed) → InTurn old (reading l.self.place l.self.incarnation l.reads) l.fn.replies.items l.made l.self.pass → Along l.self l.made old l.reads l.left l.replies.items l.fn.notes.items l.notes.items;
  room : vec_len l.notes + length l.left ≤ vec_capacity l.notes;
  seen : AreSeen l.self.pass l.replies.items (reading l.self.place l.self.incarnation l.left);
}

abbrev pub decreases-loop-replies : goal.decreases-loop-replies
decreases-loop-replies g l = length l.left
