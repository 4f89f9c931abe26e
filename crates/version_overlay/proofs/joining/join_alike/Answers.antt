use Rattle.std.proofs.Common.{◌≡◌, true, false, Result, Ok, Err, ◌-◌, arith, refl, ap, sym, subst, ◌∙◌}
use Rattle.std.proofs.lemmas.Bool.{false≢true}
use Rattle.std.specs.List.{slice_range}
use Rattle.std.specs.Result.{is_err, OnOk, OnErr}
use Rattle.version_overlay.specs.Joined.{Joined, none, size_of_all}
use Rattle.version_overlay.proofs.Neighbours.{joined_then, joined_within}
use Rattle.version_overlay.proofs.joining.join_alike.Goals as goal

ok_part : {T E P : Type 0} (r : Result T E) → is_err r ≡ false → OnOk r P → P
ok_part (Ok x) e h = h
ok_part (Err x) e h = absurd (false≢true (sym e))

err_part : {T E P : Type 0} (r : Result T E) → is_err r ≡ true → OnErr r P → P
err_part (Ok x) e h = absurd (false≢true e)
err_part (Err x) e h = h

pub loop-run-init : goal.loop-run-init
loop-run-init c = (λ d. refl, (omega arith, none))

pub loop-run-preserved : goal.loop-run-preserved
loop-run-preserved c =
    let run = c.in-Some.run' in
    let so_far = c.loop-run.invariant in
    let found = c.in-Some.ensures in
    let sizes = ap (λ xs. size_of_all (slice_range xs run.first run.past)) c.deref.ensures.value in
    let next = ok_part c.join_run.result (sym c.is_err.ensures.value ∙ c.if-is_err.false) c.join_run.ensures.joined in (
      λ d. c.join_run.ensures.same d ∙ so_far.0 d,
      (omega (arith, found.2, so_far.1.0), joined_then (131072 - run.left) so_far.1.1 next (omega (arith, found.2, sizes, so_far.1.0))),
    )

pub returns-then-is_err-clause-joined : goal.returns-then-is_err-clause-joined
returns-then-is_err-clause-joined c =
    let same = err_part c.join_run.result (sym c.is_err.ensures.value ∙ c.if-is_err.true) c.join_run.ensures.err in
    subst (λ xs. Joined c.args.levels.now.items 131072 xs) (sym same) (joined_within 131072 c.loop-run.invariant.1.1 (omega arith))

pub returns-in_default-clause-joined : goal.returns-in_default-clause-joined
returns-in_default-clause-joined c = joined_within 131072 c.loop-run.invariant.1.1 (omega arith)
