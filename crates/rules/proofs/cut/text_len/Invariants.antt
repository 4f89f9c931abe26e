use Rattle.std.proofs.Common.{◌≡◌, ◌+◌, ◌≤◌, length, true}
use Rattle.rules.specs.Cutting.{text_from}
use Rattle.rules.proofs.cut.text_len.Given as goal

abbrev pub invariant-loop-rest : goal.invariant-loop-rest
invariant-loop-rest l = record {
  count : length (text_from true l.fn.bytes) + length l.rest ≡ length (text_from l.starts l.rest) + length l.fn.bytes;
  within : length l.rest ≤ length l.fn.bytes;
}

abbrev pub decreases-loop-rest : goal.decreases-loop-rest
decreases-loop-rest l = length l.rest
