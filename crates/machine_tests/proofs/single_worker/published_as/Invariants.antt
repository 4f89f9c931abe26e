use Rattle.shared.specs.Duty.{IsPassFor}
use Rattle.machine_tests.proofs.single_worker.published_as.Given as goal

abbrev pub invariant-loop-incarnation : goal.invariant-loop-incarnation
invariant-loop-incarnation l = IsPassFor (record { table = l.fn.shared; subject = l.fn.topic }) l.pass
