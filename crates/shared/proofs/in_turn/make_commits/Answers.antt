use Rattle.std.proofs.Common.{arith, Ok, false, ◌+◌, ◌-◌}
use Rattle.std.proofs.lemmas.Result.{err_from_is_err_and}
use Rattle.incarnations.specs.declared.state.Event.TheVariants.{Commit}
use Rattle.shared.specs.InTurn.{committing}
use Rattle.shared.proofs.InTurn.{went_as, went_told, went_stop, went_next, went_all, commit_below, commit_at, commit_all}
use Rattle.shared.proofs.in_turn.make_commits.Goals as goal

pub returns-in_err-make_next : goal.returns-in_err-make_next
returns-in_err-make_next c =
    let is = c.in_err-make_next.was in
    let told = err_from_is_err_and c.from_residual.result c.from_residual.ensures.1 in
    went_as _ _ _ _ _ _ c.make_next.result c.from_residual.result _ told.0 is told.1
    (went_stop _ _ _ _ (committing c.args.i c.args.until) (c.loop-place.place - c.args.i) (Commit c.loop-place.place) _ _ _ (commit_below c.args.i c.args.until c.loop-place.place (omega arith) (omega arith)) (commit_at c.args.i c.args.until c.loop-place.place (omega arith) (omega arith)) c.loop-place.invariant c.make_next.result (λ t. cc) c.make_next.ensures)

pub returns-then-not-branch : goal.returns-then-not-branch
returns-then-not-branch c =
    went_stop _ _ _ _ (committing c.args.i c.args.until) (c.loop-place.place - c.args.i) (Commit c.loop-place.place) _ _ _ (commit_below c.args.i c.args.until c.loop-place.place (omega arith) (omega arith)) (commit_at c.args.i c.args.until c.loop-place.place (omega arith) (omega arith)) c.loop-place.invariant (Ok false) (λ t. cc)
    (went_told _ _ _ _ _ _ c.make_next.result _ _ c.in_ok-make_next.was c.if-not-branch.true c.make_next.ensures)

pub loop-place-preserved : goal.loop-place-preserved
loop-place-preserved c =
    went_next _ _ _ _ (committing c.args.i c.args.until) (c.loop-place.place - c.args.i) (Commit c.loop-place.place) _ _ _ (commit_below c.args.i c.args.until c.loop-place.place (omega arith) (omega arith)) (commit_at c.args.i c.args.until c.loop-place.place (omega arith) (omega arith)) c.loop-place.invariant (c.loop-place.place + 1 - c.args.i) (omega arith)
    (went_told _ _ _ _ _ _ c.make_next.result _ _ c.in_ok-make_next.was c.if-not-branch.false c.make_next.ensures)

pub returns : goal.returns
returns c = went_all _ _ _ (committing c.args.i c.args.until) (c.loop-place.place - c.args.i) _ _ _ (commit_all c.args.i c.args.until c.loop-place.place (omega arith)) c.loop-place.invariant
