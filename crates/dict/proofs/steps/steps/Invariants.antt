use Rattle.std.proofs.Common.{◌≡◌, ℕ, ◌<◌, length, get_or}
use Rattle.std.specs.declared.cmp.Ordering.{Ordering}
use Rattle.dict.specs.Ranks.{IsStep}
use Rattle.dict.proofs.steps.steps.Given as goal

abbrev pub invariant-loop-place : goal.invariant-loop-place
invariant-loop-place l = record {
  as_many : length l.steps.items ≡ l.place;
  each : (place : ℕ) (d : Ordering) → place < length l.steps.items → IsStep l.placed place (get_or l.steps.items place d);
}
