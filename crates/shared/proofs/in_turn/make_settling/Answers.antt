use Rattle.std.proofs.Common.{Ok, false}
use Rattle.std.proofs.lemmas.Result.{err_from_is_err_and}
use Rattle.shared.specs.InTurn.{checking, committing}
use Rattle.shared.proofs.InTurn.{went_more, went_short, went_as, went_told}
use Rattle.shared.proofs.in_turn.make_settling.Goals as goal

pub returns-in_err-make_checks : goal.returns-in_err-make_checks
returns-in_err-make_checks c =
    let is = c.in_err-make_checks.was in
    let told = err_from_is_err_and c.from_residual.result c.from_residual.ensures.1 in
    went_as _ _ _ _ _ _ c.make_checks.result c.from_residual.result _ told.0 is told.1
    (went_short _ _ _ (checking c.args.i c.args.n c.args.notes) (committing c.args.i c.args.until) _ _ c.make_checks.result (λ t. cc) c.make_checks.ensures)

pub returns-then-not-branch : goal.returns-then-not-branch
returns-then-not-branch c =
    went_short _ _ _ (checking c.args.i c.args.n c.args.notes) (committing c.args.i c.args.until) _ _ (Ok false) (λ t. cc)
    (went_told _ _ _ _ _ _ c.make_checks.result _ false c.in_ok-make_checks.was c.if-not-branch.true c.make_checks.ensures)

pub returns : goal.returns
returns c =
    went_more _ _ _ _ (checking c.args.i c.args.n c.args.notes) (committing c.args.i c.args.until) _ _ _ c.make_commits.result
    (went_told _ _ _ _ _ _ c.make_checks.result _ _ c.in_ok-make_checks.was c.if-not-branch.false c.make_checks.ensures) c.make_commits.ensures
