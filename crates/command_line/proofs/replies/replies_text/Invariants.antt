use Rattle.std.proofs.Common.{◌≡◌, ◌++◌, drop}
use Rattle.std.specs.Prelude.{string_bytes}
use Rattle.command_line.specs.Replies.{lines_from, reply_line, reply_lines}
use Rattle.command_line.proofs.replies.replies_text.Given as goal

abbrev pub invariant-loop-place : goal.invariant-loop-place
invariant-loop-place l = string_bytes l.text ++ lines_from reply_line l.place (drop l.place l.replies) ≡ reply_lines l.replies
