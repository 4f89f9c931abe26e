use Rattle.std.proofs.Common.{sym, ap, ◌∙◌}
use Rattle.std.proofs.lemmas.Result.{err_from_is_err_and}
use Rattle.syntax_trees.specs.Groups.{parts_of, lists_of}
use Rattle.productions.proofs.ManyLaws.{so_far, many_step, step_smaller}
use Rattle.groups.specs.Reading.{union_link, graph_with, group_at}
use Rattle.groups.proofs.Parts.{groups_consume}
use Rattle.groups.proofs.LoopLaws.{passes, where_none, group_pushed, group_unread, starts, first_fails, item_fails, turn_shrinks, turns}
use Rattle.groups.proofs.parse.+groups.Goals as goal

pub graph_at-returns : goal.graph_at-returns
unfolding graph_with
graph_at-returns t c = rw c.in_ok-name.ensures (c.graph_of.ensures _ c.group_at.ensures)

pub groups_at-returns-in_err-push_group : goal.groups_at-returns-in_err-push_group
groups_at-returns-in_err-push_group t c =
    let p = err_from_is_err_and c.from_residual.result c.from_residual.ensures.1 in
    passes _ _ _ _ _ p.1 p.2 (group_unread c.args.depth (lists_of c.loop-goes_on.found.items) c.loop-goes_on.rest.now c.loop-goes_on.goes_on _ _ c.loop-goes_on-test.true (c.in_err-push_group.ensures _ c.group_at-read.ensures) c.loop-goes_on.invariant)

pub groups_at-loop-goes_on-smaller : goal.groups_at-loop-goes_on-smaller
groups_at-loop-goes_on-smaller t c =
    let p = group_pushed _ _ _ _ (c.in_ok-push_group.ensures _ c.group_at-read.ensures) in
    rw c.kept-rest.ensures (step_smaller _ _ (groups_consume c.readings_shrink.ensures.groups _) _ _ _ (c.union_link-next.result.0, c.union_link-next.result.1.now) p.1 c.union_link-next.ensures)

pub groups_at-loop-goes_on-preserved : goal.groups_at-loop-goes_on-preserved
groups_at-loop-goes_on-preserved t c =
    let p = group_pushed _ _ _ _ (c.in_ok-push_group.ensures _ c.group_at-read.ensures) in
    rw (c.kept-rest.ensures, ← p.2)
    (many_step _ _ (groups_consume c.readings_shrink.ensures.groups _) (lists_of c.loop-goes_on.found.items) _ _ _ (c.union_link-next.result.0, c.union_link-next.result.1.now) p.1 c.union_link-next.ensures
    ∙ ap (λ b. so_far (group_at c.args.depth) union_link b (lists_of c.loop-goes_on.found.items) c.loop-goes_on.rest.now) (sym c.loop-goes_on-test.true) ∙ c.loop-goes_on.invariant)

pub parts_at-returns-in_err-rest : goal.parts_at-returns-in_err-rest
parts_at-returns-in_err-rest t c =
    let p = err_from_is_err_and c.from_residual.result c.from_residual.ensures.1 in
    passes _ _ _ _ _ p.1 p.2 (first_fails c.args.depth c.new-found.result.items c.args.tokens.now c.in_err-rest.field-0.0 c.new-found.ensures.items c.in_err-rest.ensures)

pub parts_at-loop-alloc-init : goal.parts_at-loop-alloc-init
parts_at-loop-alloc-init t c = starts c.args.depth c.new-found.result.items c.args.tokens.now (parts_of c.push_front.new.found.items) c.in_ok-rest.rest.now c.new-found.ensures.items c.in_ok-rest.ensures

pub parts_at-returns-in_err-rest-2 : goal.parts_at-returns-in_err-rest-2
parts_at-returns-in_err-rest-2 t c =
    let p = err_from_is_err_and c.from_residual-in_err-rest-2.result c.from_residual-in_err-rest-2.ensures.1 in
    passes _ _ _ _ _ p.1 p.2
    (item_fails c.args.depth c.readings_shrink.ensures.items (parts_of c.loop-alloc.found.items) c.loop-alloc.rest.now _ _ (where_none c.after_sign.result _ _ c.loop-alloc-test.ensures c.after_sign.ensures) (c.in_err-rest-2.ensures _ _ _ c.part_at-read.ensures) c.loop-alloc.invariant)

pub parts_at-loop-alloc-smaller : goal.parts_at-loop-alloc-smaller
parts_at-loop-alloc-smaller t c =
    turn_shrinks c.args.depth c.readings_shrink.ensures.items (parts_of c.loop-alloc.found.items) c.loop-alloc.rest.now (parts_of c.push_item.new.found.items) c.in_ok-rest-2.rest.now (c.in_ok-rest-2.ensures _ _ _ c.part_at-read.ensures)

pub parts_at-loop-alloc-preserved : goal.parts_at-loop-alloc-preserved
parts_at-loop-alloc-preserved t c =
    turns c.args.depth c.readings_shrink.ensures.items (parts_of c.loop-alloc.found.items) c.loop-alloc.rest.now (parts_of c.push_item.new.found.items) c.in_ok-rest-2.rest.now (where_none c.after_sign.result _ _ c.loop-alloc-test.ensures c.after_sign.ensures) (c.in_ok-rest-2.ensures _ _ _ c.part_at-read.ensures)
    ∙ c.loop-alloc.invariant
