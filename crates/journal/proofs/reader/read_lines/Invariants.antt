use Rattle.std.proofs.Common.{◌≡◌, ◌++◌, length, All}
use Rattle.std.specs.List.{flat_map}
use Rattle.canonical_nquads.specs.Tag.{mark_of}
use Rattle.journal.specs.Text.{line_text}
use Rattle.journal.specs.Lines.{IsLine}
use Rattle.journal.proofs.reader.read_lines.Given as goal

abbrev pub invariant-loop-rest : goal.invariant-loop-rest
invariant-loop-rest l = record {
  text : l.text ≡ flat_map (line_text l.tag) l.lines.items ++ l.rest;
  each : All (IsLine (mark_of l.tag)) l.lines.items;
}

abbrev pub decreases-loop-rest : goal.decreases-loop-rest
decreases-loop-rest l = length l.rest
