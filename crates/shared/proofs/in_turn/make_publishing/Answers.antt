use Rattle.std.proofs.Common.{◌∷◌, [], ◌++◌, Ok, false, Some}
use Rattle.std.proofs.lemmas.Result.{err_from_is_err_and}
use Rattle.incarnations.specs.declared.state.Event.TheVariants.{Publish}
use Rattle.shared.specs.InTurn.{checking, committing}
use Rattle.shared.proofs.InTurn.{went_more, went_short, went_as, went_told}
use Rattle.shared.proofs.in_turn.make_publishing.Goals as goal

pub returns-in_err-made : goal.returns-in_err-made
returns-in_err-made c =
    let is = c.in_err-made.was in
    let told = err_from_is_err_and c.from_residual.result c.from_residual.ensures.1 in
    went_as _ _ _ _ _ _ c.make_next-made.result c.from_residual.result _ told.0 is told.1
    (went_short _ _ _ (Publish c.args.i c.args.n (Some c.args.finished) ∷ []) (checking c.args.i c.args.n c.args.notes ++ committing c.args.i c.args.until) _ _ c.make_next-made.result (λ t. cc) c.make_next-made.ensures)

pub returns-then-not-branch : goal.returns-then-not-branch
returns-then-not-branch c =
    went_short _ _ _ (Publish c.args.i c.args.n (Some c.args.finished) ∷ []) (checking c.args.i c.args.n c.args.notes ++ committing c.args.i c.args.until) _ _ (Ok false) (λ t. cc)
    (went_told _ _ _ _ _ _ c.make_next-made.result _ false c.in_ok-made.was c.if-not-branch.true c.make_next-made.ensures)

pub returns : goal.returns
returns c =
    went_more _ _ _ _ (Publish c.args.i c.args.n (Some c.args.finished) ∷ []) (checking c.args.i c.args.n c.args.notes ++ committing c.args.i c.args.until) _ _ _ c.make_settling.result
    (went_told _ _ _ _ _ _ c.make_next-made.result _ _ c.in_ok-made.was c.if-not-branch.false c.make_next-made.ensures) c.make_settling.ensures
