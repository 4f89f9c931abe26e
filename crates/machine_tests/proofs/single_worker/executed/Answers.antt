use Rattle.std.proofs.Common.{sym, subst}
use Rattle.shared.specs.Duty.{IsPassFor, Duty}
use Rattle.machine_tests.proofs.SeeingLaws.{ran_for, stopped_for}
use Rattle.machine_tests.proofs.single_worker.executed.Goals as goal

pub returns-in-Ok-clause-pass : goal.returns-in-Ok-clause-pass
returns-in-Ok-clause-pass c =
    let d : Duty = record { table = c.args.shared.now; subject = c.args.topic.now } in
    subst (IsPassFor d) (sym c.into_pass-pass.ensures) (ran_for d _ c.args.pass c.execute-execution.new.source c.requires.pass c.in-Ok.ensures.asked)

pub returns-in-Err-clause-pass : goal.returns-in-Err-clause-pass
returns-in-Err-clause-pass c =
    let d : Duty = record { table = c.args.shared.now; subject = c.args.topic.now } in
    subst (IsPassFor d) (sym c.into_pass-pass.ensures) (stopped_for d _ _ c.args.pass c.execute-execution.new.source c.requires.pass c.in-Err.ensures.stops)
