use Rattle.std.proofs.Common.{◌≡◌, take}
use Rattle.journal.specs.Text.{journal_text}
use Rattle.journal.proofs.writer.write_lines.Given as goal

abbrev pub invariant-loop-line : goal.invariant-loop-line
invariant-loop-line l = l.text.items ≡ journal_text l.tag (take l.line-index l.lines)
