use Rattle.std.proofs.Common.{◌≡◌, replicate}
use Rattle.incarnations.specs.Kept.{fresh_kept}
use Rattle.slots.proofs.slots.Slots.new.Given as goal

abbrev pub invariant-loop-count : goal.invariant-loop-count
invariant-loop-count l = l.slots.items ≡ replicate l._count fresh_kept
