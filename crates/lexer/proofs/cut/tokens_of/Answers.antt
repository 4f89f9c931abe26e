use Rattle.std.proofs.Common.{◌≡◌, arith, ◌<◌, length, ◌∙◌, subst, sym}
use Rattle.std.proofs.lemmas.Result.{err_from_is_err_and}
use Rattle.std.proofs.lemmas.Grind.{common_steps}
use Rattle.lexer.specs.Reading.{NoneAhead}
use Rattle.lexer.proofs.CutLaws.{cut_start, cut_more, cut_smaller, cut_stuck, cut_done, cut_edge, is_stuck}
use Rattle.lexer.proofs.EdgeLaws.{edge_start}
use Rattle.lexer.proofs.cut.tokens_of.Goals as goal

pub loop-rest-init : goal.loop-rest-init
loop-rest-init c = (rw (c.in_ok-tokens.ensures.items, c.skip-rest.ensures) (cut_start c.runs_are_longest.ensures c.args.text.now), edge_start _)

pub returns-in_err-token : goal.returns-in_err-token
returns-in_err-token c =
    let p = err_from_is_err_and c.from_residual-in_err-token.result c.from_residual-in_err-token.ensures.1 in
    let some : 0 < length c.loop-rest.rest.now = grind (arith, common_steps) in
    is_stuck _ _ _ p.1 (p.2 ∙ c.in_err-token.ensures.none.0) (cut_stuck c.runs_are_longest.ensures _ _ _ c.loop-rest.invariant.0 some c.in_err-token.ensures.none.1)

pub loop-rest-smaller : goal.loop-rest-smaller
loop-rest-smaller c = rw (c.skip-rest-in-loop-rest.ensures) (cut_smaller c.runs_are_longest.ensures _ _ _ c.in_ok-token.ensures.found)

pub loop-rest-preserved : goal.loop-rest-preserved
loop-rest-preserved c = (
  rw (c.in_ok-push.ensures.items, c.skip-rest-in-loop-rest.ensures) (cut_more c.runs_are_longest.ensures _ _ _ _ _ c.loop-rest.invariant.0 c.in_ok-token.ensures.found),
  subst (λ rest. NoneAhead rest c.edge_at-edge.result) (sym c.skip-rest-in-loop-rest.ensures) (cut_edge c.runs_are_longest.ensures _ _ _ _ c.in_ok-token.ensures.found c.edge_at-edge.ensures),
)

pub returns : goal.returns
returns c =
    let none : length c.loop-rest.rest.now ≡ 0 = grind (arith, common_steps) in
    cut_done _ _ _ c.loop-rest.invariant.0 none
