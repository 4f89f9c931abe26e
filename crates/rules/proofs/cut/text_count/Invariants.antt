use Rattle.std.proofs.Common.{◌≡◌, ◌+◌, ◌≤◌, cond, length, true}
use Rattle.rules.specs.Requests.{whole_lines, texts_of}
use Rattle.rules.proofs.cut.text_count.Given as goal

abbrev pub invariant-loop-goes_on : goal.invariant-loop-goes_on
invariant-loop-goes_on l = record {
  total : l.count + cond l.goes_on (length (texts_of (whole_lines l.rest))) 0 ≡ length (texts_of (whole_lines l.bytes));
  bound : l.goes_on ≡ true → l.count + length l.rest ≤ length l.bytes;
}

abbrev pub decreases-loop-goes_on : goal.decreases-loop-goes_on
decreases-loop-goes_on l = cond l.goes_on (length l.rest + 1) 0
