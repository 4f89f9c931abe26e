use Rattle.std.proofs.Common.{◌≡◌, ◌+◌, ◌<◌, ◌≤◌, arith, length, ◌∙◌, subst, sym, ap, refl, false}
use Rattle.std.proofs.lemmas.Result.{err_from_is_err_and}
use Rattle.std.proofs.lemmas.Grind.{common_steps}
use Rattle.lexer.specs.Ends.{depth_after}
use Rattle.lexer.specs.Reading.{NoneAhead, skip_from}
use Rattle.lexer.proofs.CutLaws.{cut_start, cut_more, cut_smaller, cut_stuck, cut_edge, skip_len}
use Rattle.lexer.proofs.EdgeLaws.{edge_start}
use Rattle.lexer.proofs.FrontLaws.{ends_later, ends_here, one_deeper, is_front, is_unread}
use Rattle.lexer.proofs.cut.step_tokens.Goals as goal

pub loop-edge-init : goal.loop-edge-init
loop-edge-init c =
    let less : length c.skip-rest.result.now ≤ length c.args.text.now = rw c.skip-rest.ensures (skip_len false c.args.text.now) in
    record {
      cut = rw (c.new-tokens.ensures.items, c.skip-rest.ensures) (cut_start c.runs_are_longest.ensures c.args.text.now);
      ahead = edge_start _;
      room = grind (arith, common_steps);
      within = grind (arith, common_steps);
      goes_on = rw c.new-tokens.ensures.items (λ later. refl);
    }

pub returns-in_err-token : goal.returns-in_err-token
returns-in_err-token c =
    let p = err_from_is_err_and c.from_residual.result c.from_residual.ensures.1 in
    let some : 0 < length c.loop-edge.rest.now = grind (arith, common_steps) in
    is_unread _ _ _ p.1 (p.2 ∙ c.in_err-token.ensures.none.0) (cut_stuck c.runs_are_longest.ensures _ _ _ c.loop-edge.invariant.cut some c.in_err-token.ensures.none.1)

pub loop-edge-smaller : goal.loop-edge-smaller
loop-edge-smaller c = rw (c.skip-rest-in-loop-edge.ensures) (cut_smaller c.runs_are_longest.ensures _ _ _ c.in_ok-token.ensures.found)

pub loop-edge-preserved : goal.loop-edge-preserved
loop-edge-preserved c =
    let shorter : length (skip_from false c.in_ok-token.after.now) < length c.loop-edge.rest.now = cut_smaller c.runs_are_longest.ensures _ _ _ c.in_ok-token.ensures.found in
    let after : length c.skip-rest-in-loop-edge.result.now ≡ length (skip_from false c.in_ok-token.after.now) = ap length c.skip-rest-in-loop-edge.ensures in
    let deeper : depth_after c.in_ok-token.token c.loop-edge.depth ≤ c.loop-edge.depth + 1 = one_deeper c.in_ok-token.token c.loop-edge.depth in
    let depth : c.depth_after-depth.result ≡ depth_after c.in_ok-token.token c.loop-edge.depth = c.depth_after-depth.ensures in
    let room = c.loop-edge.invariant.room in
    record {
      cut = rw (c.in_ok-push.ensures.items, c.skip-rest-in-loop-edge.ensures) (cut_more c.runs_are_longest.ensures _ _ _ _ _ c.loop-edge.invariant.cut c.in_ok-token.ensures.found);
      ahead = subst (λ rest. NoneAhead rest c.edge_at-edge.result) (sym c.skip-rest-in-loop-edge.ensures) (cut_edge c.runs_are_longest.ensures _ _ _ _ c.in_ok-token.ensures.found c.edge_at-edge.ensures);
      room = omega arith;
      within = c.loop-edge.invariant.within;
      goes_on = rw (c.in_ok-push.ensures.items, c.depth_after-depth.ensures) (ends_later c.loop-edge.tokens.items _ _ c.loop-edge.invariant.goes_on (sym c.is_end-ends.ensures ∙ c.if-ends.false));
    }

pub returns-then-ends : goal.returns-then-ends
returns-then-ends c =
    let shorter : length (skip_from false c.in_ok-token.after.now) < length c.loop-edge.rest.now = cut_smaller c.runs_are_longest.ensures _ _ _ c.in_ok-token.ensures.found in
    let after : length c.skip-rest-in-loop-edge.result.now ≡ length (skip_from false c.in_ok-token.after.now) = ap length c.skip-rest-in-loop-edge.ensures in
    let room = c.loop-edge.invariant.room in
    let within = c.loop-edge.invariant.within in
    is_front _ _ _
    (rw (c.in_ok-push.ensures.items, c.skip-rest-in-loop-edge.ensures) (cut_more c.runs_are_longest.ensures _ _ _ _ _ c.loop-edge.invariant.cut c.in_ok-token.ensures.found))
    (λ some. rw c.in_ok-push.ensures.items (ends_here c.loop-edge.tokens.items _ _ c.loop-edge.invariant.goes_on (sym c.is_end-ends.ensures ∙ c.if-ends.true)))
    (λ some. omega arith)

pub returns : goal.returns
returns c =
    let none : length c.loop-edge.rest.now ≡ 0 = grind (arith, common_steps) in
    is_front _ _ _ c.loop-edge.invariant.cut (λ some. absurd (omega arith)) (λ some. omega arith)
