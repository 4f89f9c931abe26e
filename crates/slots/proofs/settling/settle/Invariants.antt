use Rattle.std.proofs.Common.{◌≡◌}
use Rattle.validate.specs.Kept.{Holds}
use Rattle.slots.proofs.settling.settle.Given as goal

abbrev pub invariant-loop-low : goal.invariant-loop-low
invariant-loop-low l = record {
  holds : Holds l.kept;
  slots : l.kept.slots.items ≡ l.initial.kept.slots.items;
  low : l.kept.low ≡ l._low;
}
