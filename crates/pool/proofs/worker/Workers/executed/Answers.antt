use Rattle.std.proofs.Common.{sym, subst}
use Rattle.shared.specs.Asks.{Asker}
use Rattle.shared.specs.Duty.{IsPassFor}
use Rattle.pool.proofs.Passes.{ran_for, stopped_for, short_stopped, blocked_unanswered, stale_unanswered}
use Rattle.pool.proofs.worker.Workers.executed.Goals as goal

pub returns-in-Ok-clause-pass : goal.returns-in-Ok-clause-pass
returns-in-Ok-clause-pass g c =
    let d = c.args.self.now in
    let begun = subst (λ (a : Asker). IsPassFor d a.pass) (sym c.new-asking.ensures) c.requires.pass in
    subst (IsPassFor d) (sym c.into_pass-pass.ensures) (ran_for d _ c.new-asking.result c.execute-execution.new.source begun c.in-Ok.ensures.asked)

pub returns-in-Memory-clause-pass : goal.returns-in-Memory-clause-pass
returns-in-Memory-clause-pass g c =
    let d = c.args.self.now in
    let begun = subst (λ (a : Asker). IsPassFor d a.pass) (sym c.new-asking.ensures) c.requires.pass in
    subst (IsPassFor d) (sym c.into_pass-pass.ensures) (stopped_for d _ _ c.new-asking.result c.execute-execution.new.source begun c.in-Err.ensures.stops)

pub returns-in-Memory-clause-memory : goal.returns-in-Memory-clause-memory
returns-in-Memory-clause-memory g c =
    short_stopped c.args.request.now _ _ _ _ c.new-asking.result c.execute-execution.new.source c.new-asking.ensures c.into_pass-pass.ensures _ c.in-Err.ensures.stops c.in-Memory.is

pub returns-in-Blocked-clause-pass : goal.returns-in-Blocked-clause-pass
returns-in-Blocked-clause-pass g c =
    let d = c.args.self.now in
    let begun = subst (λ (a : Asker). IsPassFor d a.pass) (sym c.new-asking.ensures) c.requires.pass in
    subst (IsPassFor d) (sym c.into_pass-pass.ensures) (stopped_for d _ _ c.new-asking.result c.execute-execution.new.source begun c.in-Err.ensures.stops)

pub returns-in-Blocked-clause-none : goal.returns-in-Blocked-clause-none
returns-in-Blocked-clause-none g c =
    blocked_unanswered _ _ _ _ _ c.new-asking.result c.execute-execution.new.source c.new-asking.ensures c.into_pass-pass.ensures _ c.in-Err.ensures.stops _ c.in-Blocked.is

pub returns-in-Stale-clause-pass : goal.returns-in-Stale-clause-pass
returns-in-Stale-clause-pass g c =
    let d = c.args.self.now in
    let begun = subst (λ (a : Asker). IsPassFor d a.pass) (sym c.new-asking.ensures) c.requires.pass in
    subst (IsPassFor d) (sym c.into_pass-pass.ensures) (stopped_for d _ _ c.new-asking.result c.execute-execution.new.source begun c.in-Err.ensures.stops)

pub returns-in-Stale-clause-none : goal.returns-in-Stale-clause-none
returns-in-Stale-clause-none g c =
    stale_unanswered _ _ _ _ _ c.new-asking.result c.execute-execution.new.source c.new-asking.ensures c.into_pass-pass.ensures _ c.in-Err.ensures.stops c.in-Stale.is
