use Rattle.shared.specs.Duty.{IsPassFor}
use Rattle.machine_tests.proofs.waiting_calls.are_told.Given as goal

abbrev pub invariant-loop-step : goal.invariant-loop-step
invariant-loop-step g l = IsPassFor (record { table = l.fn.shared; subject = l.fn.topic }) l.pass
