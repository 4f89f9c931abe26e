use Rattle.std.proofs.Common.{◌≡◌, [], Some, refl, sym, ap, ◌∙◌, map, arith}
use Rattle.std.specs.Prelude.{cond, filter}
use Rattle.std.proofs.lemmas.Grind.{common_steps}
use Rattle.std.proofs.lemmas.Result.{IfOk-weaker}
use Rattle.algebra.proofs.Folds.{group_is, union_is}
use Rattle.algebra.specs.Expressions.{expression_of}
use Rattle.algebra.specs.Plans.{Basic, InGraph, plan_of, parts_of, nothing, linked_all, filtered, united}
use Rattle.algebra.specs.declared.template.Slot.TheVariants as slot
use Rattle.datasets.specs.declared.read.Read.TheVariants.{GraphIs, Graphs}
use Rattle.datasets.specs.Id.{id_order}
use Rattle.sets.specs.Sets.{set_of}
use Rattle.meaning.specs.Mapping.{mapping_cmp}
use Rattle.eval.specs.Groups.{in_graphs}
use Rattle.asking.specs.Near.{is_for_plan}
use Rattle.meaning.specs.Solutions.{solutions, passes_all}
use Rattle.reads.specs.Reads.{applied}
use Rattle.eval.proofs.Scanned.{basic_asked}
use Rattle.eval.proofs.Folds.{parts_on, parts_solved, behind, union_begins, union_on, union_solved, filtered_solved}
use Rattle.eval.proofs.Nearness.{named_here, part_near, first_near, other_near, filtered_near, named_near, each_near, name_asked}
use Rattle.eval.proofs.Shapes.{basic_is, graph_is}
use Rattle.asking.proofs.Notes.{goes_on, goes_within, goes_nowhere, goes_short, goes_as, agreed}
use Rattle.eval.proofs.solving.+solve.Goals as goal

-- ---- solve

pub solve-returns-in-Basic-clause-goes : goal.solve-returns-in-Basic-clause-goes
solve-returns-in-Basic-clause-goes g t c written here =
    let ts = c.as_slice.result.now in
    let is = ap plan_of c.in-Basic.is ∙ basic_is c.in-Basic.patterns ∙ ap Basic (sym c.as_slice.ensures) in
    goes_within (λ r h. ap (λ p. is_for_plan id_order written p r) is ∙ h) (c.solve_basic.ensures.goes (is_for_plan id_order written (Basic ts)) (basic_asked written c.args.active here ts))

pub solve-returns-in_err-found-in-Group-clause-goes : goal.solve-returns-in_err-found-in-Group-clause-goes
solve-returns-in_err-found-in-Group-clause-goes g t c written here =
    let ps = c.deref.result.now in
    let es = map expression_of c.in-Group.filters.items in
    let is = ap plan_of c.in-Group.is ∙ group_is c.in-Group.parts c.in-Group.filters ∙ ap (λ xs. filtered es (linked_all nothing (parts_of xs))) (sym c.deref.ensures.value) in
    goes_as _ c.from_residual.ensures.1 (goes_within (λ r h. ap (λ p. is_for_plan id_order written p r) is ∙ filtered_near written es (linked_all nothing (parts_of ps)) r h) (c.in_err-found-in-Group.ensures.goes written here))

pub solve-returns-in_err-kept-in-Group-clause-goes : goal.solve-returns-in_err-kept-in-Group-clause-goes
solve-returns-in_err-kept-in-Group-clause-goes g t c written here =
    let ps = c.deref.result.now in
    let es = map expression_of c.in-Group.filters.items in
    let is = ap plan_of c.in-Group.is ∙ group_is c.in-Group.parts c.in-Group.filters ∙ ap (λ xs. filtered es (linked_all nothing (parts_of xs))) (sym c.deref.ensures.value) in
    goes_short _ c.from_residual-in_err-kept-in-Group.ensures.1 (goes_within (λ r h. ap (λ p. is_for_plan id_order written p r) is ∙ filtered_near written es (linked_all nothing (parts_of ps)) r h) (c.in_ok-found-in-Group.ensures.goes written here))

pub solve-returns-in_ok-kept-in-Group-clause-goes : goal.solve-returns-in_ok-kept-in-Group-clause-goes
solve-returns-in_ok-kept-in-Group-clause-goes g t c written here =
    let ps = c.deref.result.now in
    let es = map expression_of c.in-Group.filters.items in
    let is = ap plan_of c.in-Group.is ∙ group_is c.in-Group.parts c.in-Group.filters ∙ ap (λ xs. filtered es (linked_all nothing (parts_of xs))) (sym c.deref.ensures.value) in
    goes_within (λ r h. ap (λ p. is_for_plan id_order written p r) is ∙ filtered_near written es (linked_all nothing (parts_of ps)) r h) (c.in_ok-found-in-Group.ensures.goes written here)

pub solve-returns-in_ok-kept-in-Group-clause-solved : goal.solve-returns-in_ok-kept-in-Group-clause-solved
solve-returns-in_ok-kept-in-Group-clause-solved g t c d a =
    let passes = g.F.Filters.passes c.args.query.now.filters.now in
    let width = c.args.query.now.width in
    let dataset = applied c.args.query.now.changes.now d in
    let ps = c.deref.result.now in
    let es = map expression_of c.in-Group.filters.items in
    let is = ap plan_of c.in-Group.is ∙ group_is c.in-Group.parts c.in-Group.filters ∙ ap (λ xs. filtered es (linked_all nothing (parts_of xs))) (sym c.deref.ensures.value) in
    c.in_ok-kept-in-Group.ensures
    ∙ ap (λ xs. filter (passes_all passes (map expression_of xs)) c.in_ok-found-in-Group.found) c.deref-in-Group.ensures.value
    ∙ ap (filter (passes_all passes es)) (c.in_ok-found-in-Group.ensures.solved d a)
    ∙ filtered_solved passes width dataset c.args.active es (linked_all nothing (parts_of ps))
    ∙ ap (λ p. solutions id_order passes width p dataset c.args.active) (sym is)

pub solve-returns-in-Union-clause-goes : goal.solve-returns-in-Union-clause-goes
solve-returns-in-Union-clause-goes g t c written here =
    let is = ap plan_of c.in-Union.is ∙ union_is c.in-Union.plans ∙ ap (λ xs. united (map plan_of xs)) (sym c.deref-in-Union.ensures.value) in
    goes_within (λ r h. ap (λ p. is_for_plan id_order written p r) is ∙ h) (c.solve_union.ensures.goes written here)

pub solve-returns-in-InGraph-clause-goes : goal.solve-returns-in-InGraph-clause-goes
solve-returns-in-InGraph-clause-goes g t c written here =
    let is = ap plan_of c.in-InGraph.is ∙ graph_is c.in-InGraph.place c.in-InGraph.inner ∙ ap (λ p. InGraph c.in-InGraph.place (plan_of p)) (sym c.deref-in-InGraph.ensures) in
    goes_within (λ r h. ap (λ p. is_for_plan id_order written p r) is ∙ h) (c.solve_in.ensures.goes written)

-- ---- solve_parts

pub solve_parts-loop-link-init : goal.solve_parts-loop-link-init
solve_parts-loop-link-init g t c = record {
  goes = λ written here. goes_nowhere _ _ _;
  found = λ d a.
      let passes = g.F.Filters.passes c.args.query.now.filters.now in
      let width = c.args.query.now.width in
      let dataset = applied c.args.query.now.changes.now d in
      ap (λ found. parts_on passes width dataset c.args.active found c.args.parts.now) c.in_ok-found.ensures
      ∙ parts_solved passes width dataset c.args.active nothing c.args.parts.now;
}

pub solve_parts-returns-in_err-next-clause-goes : goal.solve_parts-returns-in_err-next-clause-goes
solve_parts-returns-in_err-next-clause-goes g t c written here =
    goes_as _ c.from_residual-in_err-next.ensures.1 (goes_on (c.loop-link.invariant.goes written here)
    (goes_within (λ r h. part_near written nothing c.args.parts.now _ c.loop-link-item.result c.loop-link-test.true r (ap (λ part. is_for_plan id_order written (plan_of part.1) r) (sym c.loop-link-item.is) ∙ h))
    (c.in_err-next.ensures.goes written here)))

pub solve_parts-returns-in_err-found-2-clause-goes : goal.solve_parts-returns-in_err-found-2-clause-goes
solve_parts-returns-in_err-found-2-clause-goes g t c written here =
    goes_short _ c.from_residual-in_err-found-2.ensures.1 (goes_on (c.loop-link.invariant.goes written here)
    (goes_within (λ r h. part_near written nothing c.args.parts.now _ c.loop-link-item.result c.loop-link-test.true r (ap (λ part. is_for_plan id_order written (plan_of part.1) r) (sym c.loop-link-item.is) ∙ h))
    (c.in_ok-next.ensures.goes written here)))

pub solve_parts-loop-link-preserved : goal.solve_parts-loop-link-preserved
solve_parts-loop-link-preserved g t c = record {
  goes = λ written here.
      goes_on (c.loop-link.invariant.goes written here)
      (goes_within (λ r h. part_near written nothing c.args.parts.now _ c.loop-link-item.result c.loop-link-test.true r (ap (λ part. is_for_plan id_order written (plan_of part.1) r) (sym c.loop-link-item.is) ∙ h))
      (c.in_ok-next.ensures.goes written here));
  found = λ d a.
      let before = c.loop-link.invariant.found d (agreed (c.in_ok-next.ensures.goes (Some (slot.Variable 0)) refl) d a) in
      let step = c.in_ok-next.ensures.solved d a in
      let both = c.in_ok-found-2.ensures in
      grind (arith, common_steps, before, step, both);
}

-- ---- solve_union

pub solve_union-returns-in_err-found-clause-goes : goal.solve_union-returns-in_err-found-clause-goes
solve_union-returns-in_err-found-clause-goes g t c written here =
    let first = c.first-item.result in
    let is = union_begins c.args.plans.now first c.in-len1-up.len_at_least c.first-item.is in
    goes_as _ c.from_residual-in_err-found.ensures.1 (goes_within (λ r h. ap (λ p. is_for_plan id_order written p r) is ∙ first_near written (plan_of first) (map plan_of (behind c.args.plans.now)) r h) (c.in_err-found.ensures.goes written here))

pub solve_union-loop-plan-init : goal.solve_union-loop-plan-init
solve_union-loop-plan-init g t c =
    let passes = g.F.Filters.passes c.args.query.now.filters.now in
    let width = c.args.query.now.width in
    let first = c.first-item.result in
    let rest = behind c.args.plans.now in
    let is = union_begins c.args.plans.now first c.in-len1-up.len_at_least c.first-item.is in
    record {
      goes = λ written here.
          goes_within (λ r h. ap (λ p. is_for_plan id_order written p r) is ∙ first_near written (plan_of first) (map plan_of rest) r h) (c.in_ok-found.ensures.goes written here);
      found = λ d a.
          let dataset = applied c.args.query.now.changes.now d in
          ap (λ found. union_on passes width dataset c.args.active found rest) (c.in_ok-found.ensures.solved d a)
          ∙ union_solved passes width dataset c.args.active (plan_of first) rest
          ∙ ap (λ p. solutions id_order passes width p dataset c.args.active) (sym is);
    }

pub solve_union-returns-in_err-next-clause-goes : goal.solve_union-returns-in_err-next-clause-goes
solve_union-returns-in_err-next-clause-goes g t c written here =
    let first = c.first-item.result in
    let is = union_begins c.args.plans.now first c.in-len1-up.len_at_least c.first-item.is in
    goes_as _ c.from_residual-in_err-next.ensures.1 (goes_on (c.loop-plan.invariant.goes written here)
    (goes_within (λ r h. ap (λ p. is_for_plan id_order written p r) is ∙ other_near written (plan_of first) (behind c.args.plans.now) _ c.plan-item.result c.loop-plan-test.true r (ap (λ p. is_for_plan id_order written (plan_of p) r) (sym c.plan-item.is) ∙ h))
    (c.in_err-next.ensures.goes written here)))

pub solve_union-returns-in_err-found-2-clause-goes : goal.solve_union-returns-in_err-found-2-clause-goes
solve_union-returns-in_err-found-2-clause-goes g t c written here =
    let first = c.first-item.result in
    let is = union_begins c.args.plans.now first c.in-len1-up.len_at_least c.first-item.is in
    goes_short _ c.from_residual-in_err-found-2.ensures.1 (goes_on (c.loop-plan.invariant.goes written here)
    (goes_within (λ r h. ap (λ p. is_for_plan id_order written p r) is ∙ other_near written (plan_of first) (behind c.args.plans.now) _ c.plan-item.result c.loop-plan-test.true r (ap (λ p. is_for_plan id_order written (plan_of p) r) (sym c.plan-item.is) ∙ h))
    (c.in_ok-next.ensures.goes written here)))

pub solve_union-loop-plan-preserved : goal.solve_union-loop-plan-preserved
solve_union-loop-plan-preserved g t c =
    let first = c.first-item.result in
    let is = union_begins c.args.plans.now first c.in-len1-up.len_at_least c.first-item.is in
    record {
      goes = λ written here.
          goes_on (c.loop-plan.invariant.goes written here)
          (goes_within (λ r h. ap (λ p. is_for_plan id_order written p r) is ∙ other_near written (plan_of first) (behind c.args.plans.now) _ c.plan-item.result c.loop-plan-test.true r (ap (λ p. is_for_plan id_order written (plan_of p) r) (sym c.plan-item.is) ∙ h))
          (c.in_ok-next.ensures.goes written here));
      found = λ d a.
          let before = c.loop-plan.invariant.found d (agreed (c.in_ok-next.ensures.goes (Some (slot.Variable 0)) refl) d a) in
          let step = c.in_ok-next.ensures.solved d a in
          let both = c.in_ok-found-2.ensures in
          grind (arith, common_steps, before, step, both);
    }

-- ---- solve_in

pub solve_in-returns-in_err-is_graph-in-Term-clause-goes : goal.solve_in-returns-in_err-is_graph-in-Term-clause-goes
solve_in-returns-in_err-is_graph-in-Term-clause-goes g t c written =
    let p = plan_of c.args.plan.now in
    goes_as _ c.from_residual.ensures.1 (c.in_err-is_graph-in-Term.ensures.goes (is_for_plan id_order written (InGraph c.args.place p)) (ap (λ n. is_for_plan id_order written (InGraph n p) (GraphIs c.in-Term.name)) c.in-Term.is ∙ name_asked written c.in-Term.name p))

pub solve_in-returns-else-branch-clause-goes : goal.solve_in-returns-else-branch-clause-goes
solve_in-returns-else-branch-clause-goes g t c written =
    let p = plan_of c.args.plan.now in
    c.in_ok-is_graph-in-Term.ensures.goes (is_for_plan id_order written (InGraph c.args.place p)) (ap (λ n. is_for_plan id_order written (InGraph n p) (GraphIs c.in-Term.name)) c.in-Term.is ∙ name_asked written c.in-Term.name p)

pub solve_in-returns-then-branch-clause-goes : goal.solve_in-returns-then-branch-clause-goes
solve_in-returns-then-branch-clause-goes g t c written =
    let p = plan_of c.args.plan.now in
    goes_on (c.in_ok-is_graph-in-Term.ensures.goes (is_for_plan id_order written (InGraph c.args.place p)) (ap (λ n. is_for_plan id_order written (InGraph n p) (GraphIs c.in-Term.name)) c.in-Term.is ∙ name_asked written c.in-Term.name p))
    (goes_within (λ r h. ap (λ n. is_for_plan id_order written (InGraph n p) r) c.in-Term.is ∙ named_near written c.in-Term.name p r h)
    (c.solve.ensures.goes (Some (slot.Term c.in-Term.name)) (named_here c.in-Term.name)))

pub solve_in-returns-then-branch-clause-solved : goal.solve_in-returns-then-branch-clause-solved
solve_in-returns-then-branch-clause-solved g t c =
    let passes = g.F.Filters.passes c.args.query.now.filters.now in
    let width = c.args.query.now.width in
    let p = plan_of c.args.plan.now in
    IfOk-weaker c.solve.result _ _
    (λ found h d active a.
    let dataset = applied c.args.query.now.changes.now d in
    let there = sym (c.in_ok-is_graph-in-Term.ensures.seen d (agreed (c.solve.ensures.goes (Some (slot.Term c.in-Term.name)) (named_here c.in-Term.name)) d a)) ∙ c.if-branch.true in
    h d a
    ∙ sym (ap (λ n. solutions id_order passes width (InGraph n p) dataset active) c.in-Term.is
    ∙ ap (λ b. cond b (solutions id_order passes width p dataset (Some c.in-Term.name)) []) there))
    c.solve.ensures.solved

pub solve_in-returns-in_ok-names-in-Variable-clause-goes : goal.solve_in-returns-in_ok-names-in-Variable-clause-goes
solve_in-returns-in_ok-names-in-Variable-clause-goes g t c written =
    let p = plan_of c.args.plan.now in
    goes_on (c.in_ok-names-in-Variable.ensures.goes (is_for_plan id_order written (InGraph c.args.place p)) (ap (λ n. is_for_plan id_order written (InGraph n p) Graphs) c.in-Variable.is))
    (goes_within (λ r h. ap (λ n. is_for_plan id_order written (InGraph n p) r) c.in-Variable.is ∙ each_near written c.in-Variable.variable p r h) c.solve_graphs.ensures.goes)

pub solve_in-returns-in_ok-names-in-Variable-clause-solved : goal.solve_in-returns-in_ok-names-in-Variable-clause-solved
solve_in-returns-in_ok-names-in-Variable-clause-solved g t c =
    let passes = g.F.Filters.passes c.args.query.now.filters.now in
    let width = c.args.query.now.width in
    let p = plan_of c.args.plan.now in
    IfOk-weaker c.solve_graphs.result _ _
    (λ found h d active a.
    let dataset = applied c.args.query.now.changes.now d in
    let names : c.deref.result.now ≡ dataset.names = c.deref.ensures.value ∙ c.in_ok-names-in-Variable.ensures.seen d (agreed c.solve_graphs.ensures.goes d a) in
    h d a
    ∙ ap (λ ns. set_of (mapping_cmp id_order) (in_graphs passes width c.in-Variable.variable p dataset ns)) names
    ∙ sym (ap (λ n. solutions id_order passes width (InGraph n p) dataset active) c.in-Variable.is))
    c.solve_graphs.ensures.solved

-- ---- solve_graphs

pub solve_graphs-returns-in_err-next-clause-goes : goal.solve_graphs-returns-in_err-next-clause-goes
solve_graphs-returns-in_err-next-clause-goes g t c = goes_as _ c.from_residual.ensures.1 (goes_on c.loop-name.invariant.goes (c.in_err-next.ensures.goes (Some (slot.Variable c.args.variable)) refl))

pub solve_graphs-returns-in_err-push_fitted-clause-goes : goal.solve_graphs-returns-in_err-push_fitted-clause-goes
solve_graphs-returns-in_err-push_fitted-clause-goes g t c = goes_short _ c.from_residual-in_err-push_fitted.ensures.1 (goes_on c.loop-name.invariant.goes (c.in_ok-next.ensures.goes (Some (slot.Variable c.args.variable)) refl))

pub solve_graphs-loop-name-preserved : goal.solve_graphs-loop-name-preserved
solve_graphs-loop-name-preserved g t c = record {
  goes = goes_on c.loop-name.invariant.goes (c.in_ok-next.ensures.goes (Some (slot.Variable c.args.variable)) refl);
  found = λ d a.
      let before = c.loop-name.invariant.found d (agreed (c.in_ok-next.ensures.goes (Some (slot.Variable c.args.variable)) refl) d a) in
      let step = c.in_ok-next.ensures.solved d a in
      let pushed = c.in_ok-push_fitted.ensures in
      grind (arith, common_steps, before, step, pushed);
}
