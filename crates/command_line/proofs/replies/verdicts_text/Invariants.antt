use Rattle.std.proofs.Common.{◌≡◌, ◌++◌, drop}
use Rattle.std.specs.Prelude.{string_bytes}
use Rattle.command_line.specs.Replies.{lines_from, verdict_line, verdict_lines}
use Rattle.command_line.proofs.replies.verdicts_text.Given as goal

abbrev pub invariant-loop-place : goal.invariant-loop-place
invariant-loop-place l = string_bytes l.text ++ lines_from verdict_line l.place (drop l.place l.verdicts) ≡ verdict_lines l.verdicts
