use Rattle.std.proofs.Common.{◌++◌, ap, ◌∙◌}
use Rattle.std.proofs.lemmas.Result.{err_from_is_err_and}
use Rattle.faults.specs.Walk.{kinds_with}
use Rattle.rules.proofs.LongLaws.{unseen}
use Rattle.rules.proofs.long.see_front.Goals as goal

pub returns-in_err-steps : goal.returns-in_err-steps
returns-in_err-steps c =
    let p = err_from_is_err_and c.from_residual.result c.from_residual.ensures.1 in
    unseen _ _ _ _ _ _ p.1 p.2 c.in_err-steps.ensures

pub returns : goal.returns
returns c = (c.in_ok-steps.steps, c.in_ok-steps.ensures, λ later. c.in_ok-see_steps.ensures later ∙ ap (λ xs. kinds_with c.args.walk.now (xs ++ later)) c.as_slice.ensures)
