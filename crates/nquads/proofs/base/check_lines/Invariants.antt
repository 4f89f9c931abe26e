use Rattle.std.proofs.Common.{◌≡◌, ◌+◌, ◌≤◌, length}
use Rattle.nquads_lines.specs.Lines.{lines}
use Rattle.nquads.specs.Long.{but_last}
use Rattle.nquads.specs.Checked.{first_bad}
use Rattle.nquads.proofs.base.check_lines.Given as goal

abbrev pub invariant-loop-line : goal.invariant-loop-line
invariant-loop-line l = record {
  found : first_bad l.number (but_last (lines l.rest)) ≡ first_bad 0 (but_last (lines l.bytes));
  fits : l.number + length l.rest ≤ length l.bytes;
}

abbrev pub decreases-loop-line : goal.decreases-loop-line
decreases-loop-line l = length l.rest
