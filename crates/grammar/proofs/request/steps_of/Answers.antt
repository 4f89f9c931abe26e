use Rattle.std.proofs.Common.{arith, ◌<◌, ◌≡◌, length}
use Rattle.std.proofs.lemmas.Result.{err_from_is_err_and}
use Rattle.std.proofs.lemmas.Grind.{common_steps}
use Rattle.grammar.proofs.RequestLaws.{read_start, read_more, read_smaller, read_fails, passes_on, read_done}
use Rattle.grammar.proofs.request.steps_of.Goals as goal

pub loop-rest-init : goal.loop-rest-init
loop-rest-init c = rw c.new-found.ensures (read_start c.args.tokens.now)

pub returns-in_err-step : goal.returns-in_err-step
returns-in_err-step c =
    let p = err_from_is_err_and c.from_residual.result c.from_residual.ensures.1 in
    let some : 0 < length c.loop-rest.rest.now = grind (arith, common_steps) in
    passes_on _ _ _ _ p.1 p.2 (read_fails c.quads_and_groups_are_read.ensures _ _ _ _ c.loop-rest.invariant some c.in_err-step.ensures)

pub loop-rest-smaller : goal.loop-rest-smaller
loop-rest-smaller c = rw c.kept-rest.ensures (read_smaller c.quads_and_groups_are_read.ensures _ _ _ c.in_ok-step.ensures)

pub loop-rest-preserved : goal.loop-rest-preserved
loop-rest-preserved c = rw (c.in_ok-push.ensures.ok, c.kept-rest.ensures) (read_more c.quads_and_groups_are_read.ensures _ _ _ _ _ c.loop-rest.invariant c.in_ok-step.ensures)

pub returns : goal.returns
returns c =
    let zero : length c.loop-rest.rest.now ≡ 0 = grind (arith, common_steps) in
    read_done c.quads_and_groups_are_read.ensures _ _ _ c.loop-rest.invariant zero
