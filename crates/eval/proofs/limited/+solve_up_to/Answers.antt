use Rattle.std.proofs.Common.{◌≡◌, ◌-◌, List, [], Some, length, take, get_or, map, filter, refl, sym, ap, ◌∙◌}
use Rattle.std.specs.Prelude.{cond}
use Rattle.std.proofs.lemmas.Bool.{eqb-true}
use Rattle.std.proofs.lemmas.Result.{IfOk-weaker}
use Rattle.algebra.proofs.Folds.{group_is}
use Rattle.algebra.specs.Expressions.{expression_of}
use Rattle.algebra.specs.Plans.{Basic, InGraph, plan_of, parts_of, nothing, linked_all, filtered}
use Rattle.algebra.specs.declared.plan.Link.TheVariants as link
use Rattle.algebra.specs.declared.template.Slot.TheVariants as slot
use Rattle.datasets.specs.declared.read.Read.TheVariants.{GraphIs}
use Rattle.datasets.specs.Id.{id_order}
use Rattle.datasets.specs.declared.id.Id.{Id}
use Rattle.meaning.specs.Mapping.{Mapping}
use Rattle.asking.specs.Near.{is_for_plan}
use Rattle.meaning.specs.Solutions.{solutions, passes_all}
use Rattle.reads.specs.Reads.{applied}
use Rattle.solution.specs.Limits.{up_to}
use Rattle.eval.specs.Groups.{combined}
use Rattle.eval.proofs.Alone.{alone}
use Rattle.eval.proofs.Folds.{filtered_solved, linked_solved, unfiltered}
use Rattle.eval.proofs.Lasts.{group_ends, group_alone}
use Rattle.eval.proofs.Nearness.{named_here, filtered_near, named_near, before_near, next_near, name_asked}
use Rattle.eval.proofs.Scanned.{basic_asked}
use Rattle.eval.proofs.Shapes.{basic_is, graph_is}
use Rattle.asking.proofs.Notes.{goes_on, goes_within, goes_short, goes_as, agreed}
use Rattle.eval.proofs.limited.+solve_up_to.Goals as goal

-- ---- solve_up_to

pub solve_up_to-returns-in-Basic-clause-goes : goal.solve_up_to-returns-in-Basic-clause-goes
solve_up_to-returns-in-Basic-clause-goes g t c written here =
    let ts = c.as_slice-patterns.result.now in
    let is = ap plan_of c.in-Basic.is ∙ basic_is c.in-Basic.patterns ∙ ap Basic (sym c.as_slice-patterns.ensures) in
    goes_within (λ r h. ap (λ p. is_for_plan id_order written p r) is ∙ h) (c.solve_basic_up_to.ensures.goes (is_for_plan id_order written (Basic ts)) (basic_asked written c.args.active here ts))

pub solve_up_to-returns-then-is_empty-clause-goes : goal.solve_up_to-returns-then-is_empty-clause-goes
solve_up_to-returns-then-is_empty-clause-goes g t c written here =
    let ps = c.deref.result.now in
    let es = map expression_of c.in-Group.own.items in
    let is = ap plan_of c.in-Group.is ∙ group_is c.in-Group.parts c.in-Group.own ∙ ap (λ xs. filtered es (linked_all nothing (parts_of xs))) (sym c.deref.ensures.value) in
    goes_within (λ r h. ap (λ p. is_for_plan id_order written p r) is ∙ filtered_near written es (linked_all nothing (parts_of ps)) r h) (c.solve_parts_up_to.ensures.goes written here)

pub solve_up_to-returns-then-is_empty-clause-solved : goal.solve_up_to-returns-then-is_empty-clause-solved
solve_up_to-returns-then-is_empty-clause-solved g t c =
    let passes = g.F.Filters.passes c.args.query.now.filters.now in
    let width = c.args.query.now.width in
    let ps = c.deref.result.now in
    let es = map expression_of c.in-Group.own.items in
    let is = ap plan_of c.in-Group.is ∙ group_is c.in-Group.parts c.in-Group.own ∙ ap (λ xs. filtered es (linked_all nothing (parts_of xs))) (sym c.deref.ensures.value) in
    let few : length c.args.filters.now ≡ 0 = eqb-true _ _ (sym c.is_empty.ensures ∙ c.if-is_empty.true) in
    IfOk-weaker c.solve_parts_up_to.result _ _
    (λ found h d a.
    let dataset = applied c.args.query.now.changes.now d in
    h d a
    ∙ ap (up_to c.args.limit)
    (ap (λ xs. filter (passes_all passes (map expression_of xs)) (solutions id_order passes width (linked_all nothing (parts_of ps)) dataset c.args.active)) c.deref-then-is_empty.ensures.value
    ∙ filtered_solved passes width dataset c.args.active es (linked_all nothing (parts_of ps))
    ∙ ap (λ p. solutions id_order passes width p dataset c.args.active) (sym is)
    ∙ sym (unfiltered passes expression_of c.args.filters.now (solutions id_order passes width (plan_of c.args.plan.now) dataset c.args.active) few)))
    c.solve_parts_up_to.ensures.solved

pub solve_up_to-returns-in-InGraph-clause-goes : goal.solve_up_to-returns-in-InGraph-clause-goes
solve_up_to-returns-in-InGraph-clause-goes g t c written here =
    let is = ap plan_of c.in-InGraph.is ∙ graph_is c.in-InGraph.place c.in-InGraph.inner ∙ ap (λ p. InGraph c.in-InGraph.place (plan_of p)) (sym c.deref-in-InGraph.ensures) in
    goes_within (λ r h. ap (λ p. is_for_plan id_order written p r) is ∙ h) (c.solve_in_up_to.ensures.goes written)

-- ---- solve_parts_up_to

pub solve_parts_up_to-returns-then-is_join-clause-goes : goal.solve_parts_up_to-returns-then-is_join-clause-goes
solve_parts_up_to-returns-then-is_join-clause-goes g t c written here =
    let p = plan_of (get_or c.args.parts.now (length c.args.parts.now - 1) c.index-parts-parts-2.result).1 in
    let is = group_alone c.args.parts.now c.index-parts-parts.result c.index-parts-parts-2.result c.in-len1-up.len_at_least
    (eqb-true _ _ (sym c.is_empty.ensures ∙ c.if-is_empty.true)) (c.is_join.ensures c.if-is_join.true) in
    goes_within (λ r h. ap (λ q. is_for_plan id_order written q r) is ∙ next_near written link.Join nothing p r h) (c.solve_up_to.ensures.goes written here)

pub solve_parts_up_to-returns-then-is_join-clause-solved : goal.solve_parts_up_to-returns-then-is_join-clause-solved
solve_parts_up_to-returns-then-is_join-clause-solved g t c =
    let passes = g.F.Filters.passes c.args.query.now.filters.now in
    let width = c.args.query.now.width in
    let p = plan_of (get_or c.args.parts.now (length c.args.parts.now - 1) c.index-parts-parts-2.result).1 in
    let is = group_alone c.args.parts.now c.index-parts-parts.result c.index-parts-parts-2.result c.in-len1-up.len_at_least
    (eqb-true _ _ (sym c.is_empty.ensures ∙ c.if-is_empty.true)) (c.is_join.ensures c.if-is_join.true) in
    IfOk-weaker c.solve_up_to.result _ _
    (λ found h d a.
    let dataset = applied c.args.query.now.changes.now d in
    h d a
    ∙ ap (λ (xs : List (Mapping Id)). up_to c.args.limit (filter (passes_all passes (map expression_of c.args.filters.now)) xs))
    (sym (alone width passes p dataset c.args.active) ∙ ap (λ q. solutions id_order passes width q dataset c.args.active) (sym is)))
    c.solve_up_to.ensures.solved

pub solve_parts_up_to-returns-in_err-before-clause-goes : goal.solve_parts_up_to-returns-in_err-before-clause-goes
solve_parts_up_to-returns-in_err-before-clause-goes g t c written here =
    let first = linked_all nothing (parts_of (take (length c.args.parts.now - 1) c.args.parts.now)) in
    let l = (get_or c.args.parts.now (length c.args.parts.now - 1) c.index-parts-parts.result).0 in
    let p = plan_of (get_or c.args.parts.now (length c.args.parts.now - 1) c.index-parts-parts-2.result).1 in
    let is = group_ends c.args.parts.now c.index-parts-parts.result c.index-parts-parts-2.result c.in-len1-up.len_at_least in
    goes_as _ c.from_residual-in_err-before.ensures.1 (goes_within (λ r h. ap (λ q. is_for_plan id_order written q r) is ∙ before_near written l first p r h) (c.in_err-before.ensures.goes written here))

pub solve_parts_up_to-returns-in_err-next-clause-goes : goal.solve_parts_up_to-returns-in_err-next-clause-goes
solve_parts_up_to-returns-in_err-next-clause-goes g t c written here =
    let first = linked_all nothing (parts_of (take (length c.args.parts.now - 1) c.args.parts.now)) in
    let l = (get_or c.args.parts.now (length c.args.parts.now - 1) c.index-parts-parts.result).0 in
    let p = plan_of (get_or c.args.parts.now (length c.args.parts.now - 1) c.index-parts-parts-2.result).1 in
    let is = group_ends c.args.parts.now c.index-parts-parts.result c.index-parts-parts-2.result c.in-len1-up.len_at_least in
    goes_as _ c.from_residual-in_err-next.ensures.1 (goes_on
    (goes_within (λ r h. ap (λ q. is_for_plan id_order written q r) is ∙ before_near written l first p r h) (c.in_ok-before.ensures.goes written here))
    (goes_within (λ r h. ap (λ q. is_for_plan id_order written q r) is ∙ next_near written l first p r h) (c.in_err-next.ensures.goes written here)))

pub solve_parts_up_to-returns-in_err-found-clause-goes : goal.solve_parts_up_to-returns-in_err-found-clause-goes
solve_parts_up_to-returns-in_err-found-clause-goes g t c written here =
    let first = linked_all nothing (parts_of (take (length c.args.parts.now - 1) c.args.parts.now)) in
    let l = (get_or c.args.parts.now (length c.args.parts.now - 1) c.index-parts-parts.result).0 in
    let p = plan_of (get_or c.args.parts.now (length c.args.parts.now - 1) c.index-parts-parts-2.result).1 in
    let is = group_ends c.args.parts.now c.index-parts-parts.result c.index-parts-parts-2.result c.in-len1-up.len_at_least in
    goes_short _ c.from_residual-in_err-found.ensures.1 (goes_on
    (goes_within (λ r h. ap (λ q. is_for_plan id_order written q r) is ∙ before_near written l first p r h) (c.in_ok-before.ensures.goes written here))
    (goes_within (λ r h. ap (λ q. is_for_plan id_order written q r) is ∙ next_near written l first p r h) (c.in_ok-next.ensures.goes written here)))

pub solve_parts_up_to-returns-clause-goes : goal.solve_parts_up_to-returns-clause-goes
solve_parts_up_to-returns-clause-goes g t c written here =
    let first = linked_all nothing (parts_of (take (length c.args.parts.now - 1) c.args.parts.now)) in
    let l = (get_or c.args.parts.now (length c.args.parts.now - 1) c.index-parts-parts.result).0 in
    let p = plan_of (get_or c.args.parts.now (length c.args.parts.now - 1) c.index-parts-parts-2.result).1 in
    let is = group_ends c.args.parts.now c.index-parts-parts.result c.index-parts-parts-2.result c.in-len1-up.len_at_least in
    goes_on
    (goes_within (λ r h. ap (λ q. is_for_plan id_order written q r) is ∙ before_near written l first p r h) (c.in_ok-before.ensures.goes written here))
    (goes_within (λ r h. ap (λ q. is_for_plan id_order written q r) is ∙ next_near written l first p r h) (c.in_ok-next.ensures.goes written here))

pub solve_parts_up_to-returns-clause-solved : goal.solve_parts_up_to-returns-clause-solved
solve_parts_up_to-returns-clause-solved g t c d a =
    let passes = g.F.Filters.passes c.args.query.now.filters.now in
    let width = c.args.query.now.width in
    let dataset = applied c.args.query.now.changes.now d in
    let first = linked_all nothing (parts_of (take (length c.args.parts.now - 1) c.args.parts.now)) in
    let l = (get_or c.args.parts.now (length c.args.parts.now - 1) c.index-parts-parts.result).0 in
    let p = plan_of (get_or c.args.parts.now (length c.args.parts.now - 1) c.index-parts-parts-2.result).1 in
    let is = group_ends c.args.parts.now c.index-parts-parts.result c.index-parts-parts-2.result c.in-len1-up.len_at_least in
    let before = c.in_ok-before.ensures.solved d (agreed (c.in_ok-next.ensures.goes (Some (slot.Variable 0)) refl) d a) in
    let next = c.in_ok-next.ensures.solved d a in
    c.in_ok-found.ensures.value
    ∙ ap (λ (xs : List (Mapping Id)). up_to c.args.limit (filter (passes_all passes (map expression_of c.args.filters.now)) xs))
    ((λ i. combined passes l (before i) (next i))
    ∙ linked_solved passes width dataset c.args.active l first p
    ∙ ap (λ q. solutions id_order passes width q dataset c.args.active) (sym is))

-- ---- solve_in_up_to

pub solve_in_up_to-returns-in_err-is_graph-in-Term-clause-goes : goal.solve_in_up_to-returns-in_err-is_graph-in-Term-clause-goes
solve_in_up_to-returns-in_err-is_graph-in-Term-clause-goes g t c written =
    let p = plan_of c.args.plan.now in
    goes_as _ c.from_residual.ensures.1 (c.in_err-is_graph-in-Term.ensures.goes (is_for_plan id_order written (InGraph c.args.place p)) (ap (λ n. is_for_plan id_order written (InGraph n p) (GraphIs c.in-Term.name)) c.in-Term.is ∙ name_asked written c.in-Term.name p))

pub solve_in_up_to-returns-else-branch-clause-goes : goal.solve_in_up_to-returns-else-branch-clause-goes
solve_in_up_to-returns-else-branch-clause-goes g t c written =
    let p = plan_of c.args.plan.now in
    c.in_ok-is_graph-in-Term.ensures.goes (is_for_plan id_order written (InGraph c.args.place p)) (ap (λ n. is_for_plan id_order written (InGraph n p) (GraphIs c.in-Term.name)) c.in-Term.is ∙ name_asked written c.in-Term.name p)

pub solve_in_up_to-returns-then-branch-clause-goes : goal.solve_in_up_to-returns-then-branch-clause-goes
solve_in_up_to-returns-then-branch-clause-goes g t c written =
    let p = plan_of c.args.plan.now in
    goes_on (c.in_ok-is_graph-in-Term.ensures.goes (is_for_plan id_order written (InGraph c.args.place p)) (ap (λ n. is_for_plan id_order written (InGraph n p) (GraphIs c.in-Term.name)) c.in-Term.is ∙ name_asked written c.in-Term.name p))
    (goes_within (λ r h. ap (λ n. is_for_plan id_order written (InGraph n p) r) c.in-Term.is ∙ named_near written c.in-Term.name p r h)
    (c.solve_up_to.ensures.goes (Some (slot.Term c.in-Term.name)) (named_here c.in-Term.name)))

pub solve_in_up_to-returns-then-branch-clause-solved : goal.solve_in_up_to-returns-then-branch-clause-solved
solve_in_up_to-returns-then-branch-clause-solved g t c =
    let passes = g.F.Filters.passes c.args.query.now.filters.now in
    let width = c.args.query.now.width in
    let p = plan_of c.args.plan.now in
    IfOk-weaker c.solve_up_to.result _ _
    (λ found h d active a.
    let dataset = applied c.args.query.now.changes.now d in
    let there = sym (c.in_ok-is_graph-in-Term.ensures.seen d (agreed (c.solve_up_to.ensures.goes (Some (slot.Term c.in-Term.name)) (named_here c.in-Term.name)) d a)) ∙ c.if-branch.true in
    h d a
    ∙ ap (λ (xs : List (Mapping Id)). up_to c.args.limit (filter (passes_all passes (map expression_of c.args.filters.now)) xs))
    (sym (ap (λ n. solutions id_order passes width (InGraph n p) dataset active) c.in-Term.is
    ∙ ap (λ b. cond b (solutions id_order passes width p dataset (Some c.in-Term.name)) []) there)))
    c.solve_up_to.ensures.solved

pub solve_in_up_to-returns-in_err-all-in-Variable-clause-goes : goal.solve_in_up_to-returns-in_err-all-in-Variable-clause-goes
solve_in_up_to-returns-in_err-all-in-Variable-clause-goes g t c written =
    goes_as _ c.from_residual-in_err-all-in-Variable.ensures.1 (c.in_err-all-in-Variable.ensures.goes written)

pub solve_in_up_to-returns-in_err-kept-in-Variable-clause-goes : goal.solve_in_up_to-returns-in_err-kept-in-Variable-clause-goes
solve_in_up_to-returns-in_err-kept-in-Variable-clause-goes g t c written =
    goes_short _ c.from_residual-in_err-kept-in-Variable.ensures.1 (c.in_ok-all-in-Variable.ensures.goes written)
