use Rattle.std.proofs.Common.{Ok, Err, subst}
use Rattle.std.proofs.lemmas.Result.{err_from_is_err_and}
use Rattle.grammar.specs.Reading.{AreRead}
use Rattle.grammar.proofs.FrontLaws.{uncut, unread, front_read}
use Rattle.grammar.proofs.request.front_steps.Goals as goal

pub returns-in_err-tokens : goal.returns-in_err-tokens
returns-in_err-tokens c =
    let p = err_from_is_err_and c.from_residual.result c.from_residual.ensures.1 in
    uncut _ _ _ _ p.1 p.2 c.in_err-tokens.ensures

pub returns-in_err-steps : goal.returns-in_err-steps
returns-in_err-steps c =
    let p = err_from_is_err_and c.from_residual-in_err-steps.result c.from_residual-in_err-steps.ensures.1 in
    unread c.quads_and_groups_are_read.ensures c.one_cut.ensures _ _ _ _ _ _ p.1 p.2 c.in_ok-tokens.ensures (subst (λ ts. AreRead ts (Err c.in_err-steps.field-0.0)) c.as_slice.ensures.value c.in_err-steps.ensures)

pub returns : goal.returns
returns c = front_read c.quads_and_groups_are_read.ensures c.one_cut.ensures _ _ _ _ c.in_ok-tokens.ensures (subst (λ ts. AreRead ts (Ok c.in_ok-steps.steps)) c.as_slice.ensures.value c.in_ok-steps.ensures)
