use Rattle.std.proofs.Common.{arith, Ok, false, ◌+◌, ◌∷◌, [], replicate}
use Rattle.std.proofs.lemmas.Result.{err_from_is_err_and}
use Rattle.incarnations.specs.declared.state.Event.TheVariants.{Begin, Check}
use Rattle.shared.specs.InTurn.{checking}
use Rattle.shared.proofs.InTurn.{went_short, went_as, went_told, went_stop, went_next, check_below, check_at}
use Rattle.shared.proofs.in_turn.make_checks.Goals as goal

pub returns-in_err-make_next : goal.returns-in_err-make_next
returns-in_err-make_next c =
    let is = c.in_err-make_next.was in
    let told = err_from_is_err_and c.from_residual.result c.from_residual.ensures.1 in
    went_as _ _ _ _ _ _ c.make_next.result c.from_residual.result _ told.0 is told.1
    (went_short _ _ _ (Begin c.args.i c.args.n ∷ []) (replicate c.args.notes (Check c.args.i c.args.n)) _ _ c.make_next.result (λ t. cc) c.make_next.ensures)

pub returns-then-not-branch : goal.returns-then-not-branch
returns-then-not-branch c =
    went_short _ _ _ (Begin c.args.i c.args.n ∷ []) (replicate c.args.notes (Check c.args.i c.args.n)) _ _ (Ok false) (λ t. cc)
    (went_told _ _ _ _ _ _ c.make_next.result _ _ c.in_ok-make_next.was c.if-not-branch.true c.make_next.ensures)

pub returns-in_err-make_next-2 : goal.returns-in_err-make_next-2
returns-in_err-make_next-2 c =
    let is = c.in_err-make_next-2.was in
    let told = err_from_is_err_and c.from_residual-in_err-make_next-2.result c.from_residual-in_err-make_next-2.ensures.1 in
    went_as _ _ _ _ _ _ c.make_next-in-loop-note.result c.from_residual-in_err-make_next-2.result _ told.0 is told.1
    (went_stop _ _ _ _ (checking c.args.i c.args.n c.args.notes) (c.loop-note._note + 1) (Check c.args.i c.args.n) _ _ _ (check_below c.args.i c.args.n c.args.notes c.loop-note._note (omega arith)) (check_at c.args.i c.args.n c.args.notes c.loop-note._note (omega arith)) c.loop-note.invariant c.make_next-in-loop-note.result (λ t. cc) c.make_next-in-loop-note.ensures)

pub returns-then-not-branch-2 : goal.returns-then-not-branch-2
returns-then-not-branch-2 c =
    went_stop _ _ _ _ (checking c.args.i c.args.n c.args.notes) (c.loop-note._note + 1) (Check c.args.i c.args.n) _ _ _ (check_below c.args.i c.args.n c.args.notes c.loop-note._note (omega arith)) (check_at c.args.i c.args.n c.args.notes c.loop-note._note (omega arith)) c.loop-note.invariant (Ok false) (λ t. cc)
    (went_told _ _ _ _ _ _ c.make_next-in-loop-note.result _ _ c.in_ok-make_next-2.was c.if-not-branch-2.true c.make_next-in-loop-note.ensures)

pub loop-note-preserved : goal.loop-note-preserved
loop-note-preserved c =
    went_next _ _ _ _ (checking c.args.i c.args.n c.args.notes) (c.loop-note._note + 1) (Check c.args.i c.args.n) _ _ _ (check_below c.args.i c.args.n c.args.notes c.loop-note._note (omega arith)) (check_at c.args.i c.args.n c.args.notes c.loop-note._note (omega arith)) c.loop-note.invariant (c.loop-note._note + 1 + 1) (omega arith)
    (went_told _ _ _ _ _ _ c.make_next-in-loop-note.result _ _ c.in_ok-make_next-2.was c.if-not-branch-2.false c.make_next-in-loop-note.ensures)
