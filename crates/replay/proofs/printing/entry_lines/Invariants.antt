use Rattle.std.proofs.Common.{◌≡◌, map, take}
use Rattle.replay.specs.Kept.{line_of_kept}
use Rattle.replay.proofs.printing.entry_lines.Given as goal

abbrev pub invariant-loop-place : goal.invariant-loop-place
invariant-loop-place l = l.lines.items ≡ map (line_of_kept l.terms) (take l.place l.journal.entries)
