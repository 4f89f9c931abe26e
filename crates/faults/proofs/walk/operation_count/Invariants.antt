use Rattle.std.proofs.Common.{◌≡◌, ◌+◌, ◌≤◌, drop}
use Rattle.faults.specs.Faults.{operation_count}
use Rattle.faults.proofs.walk.operation_count.Given as goal

abbrev pub invariant-loop-step : goal.invariant-loop-step
invariant-loop-step l = record {
  counts : l.count + operation_count (drop l.step-index l.steps) ≡ operation_count l.steps;
  within : l.count ≤ l.step-index;
}
