use Rattle.std.proofs.Common.{arith, ◌<◌, ◌≡◌, length}
use Rattle.std.proofs.lemmas.Result.{err_from_is_err_and}
use Rattle.std.proofs.lemmas.Grind.{common_steps}
use Rattle.rules.proofs.LongLaws.{seen_start, seen_more, seen_done, stuck}
use Rattle.rules.proofs.long.kinds_of_long.Goals as goal

pub loop-rest-init : goal.loop-rest-init
loop-rest-init c = seen_start _ _ c.of_long_text-walk.ensures

pub returns-in_err-rest : goal.returns-in_err-rest
returns-in_err-rest c =
    let p = err_from_is_err_and c.from_residual.result c.from_residual.ensures.1 in
    stuck _ c.loop-rest.walk c.loop-rest.walk _ _ _ _ _ p.1 p.2 c.loop-rest.invariant c.in_err-rest.ensures

pub loop-rest-smaller : goal.loop-rest-smaller
loop-rest-smaller c =
    let some : 0 < length c.loop-rest.rest.now = grind (arith, common_steps) in
    c.in_ok-rest.ensures.1.shorter some

pub loop-rest-preserved : goal.loop-rest-preserved
loop-rest-preserved c = let s = c.in_ok-rest.ensures in seen_more _ _ _ _ _ s.0 c.loop-rest.invariant s.1 s.2

pub returns : goal.returns
returns c =
    let none : length c.loop-rest.rest.now ≡ 0 = grind (arith, common_steps) in
    seen_done c.one_reading.ensures _ _ _ _ c.loop-rest.invariant none c.requires c.kinds.ensures
