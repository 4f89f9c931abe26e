use Rattle.std.proofs.Common.{◌≡◌, ◌≤◌, ◌+◌, ◌-◌, true, length, drop}
use Rattle.nquads.specs.Feeding.{is_begun}
use Rattle.nquads.proofs.kept.known_end.Given as goal

abbrev pub invariant-loop-end : goal.invariant-loop-end
invariant-loop-end l = record {
  within : l.end ≤ length l.bytes;
  near : l.first ≤ l.end + 1;
  begun : is_begun (drop l.end l.bytes) ≡ true;
}

abbrev pub decreases-loop-end : goal.decreases-loop-end
decreases-loop-end l = l.end + 1 - l.first
