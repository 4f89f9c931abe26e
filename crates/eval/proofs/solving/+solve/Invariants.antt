use Rattle.std.proofs.Common.{◌≡◌, None, ◌++◌, true, drop, map, Option, Some}
use Rattle.datasets.specs.Id.{id_order}
use Rattle.datasets.specs.declared.id.Id.{Id}
use Rattle.datasets.specs.declared.read.GraphPlace.TheVariants.{Only}
use Rattle.algebra.specs.Plans.{plan_of, parts_of, nothing, linked_all, united}
use Rattle.algebra.specs.declared.template.Slot.{Slot}
use Rattle.algebra.specs.declared.template.Slot.TheVariants.{Variable}
use Rattle.asking.specs.Near.{is_for_plan, is_graph_written}
use Rattle.meaning.specs.Solutions.{solutions}
use Rattle.reads.specs.Reads.{View, applied}
use Rattle.reads.specs.Runs.{Agrees}
use Rattle.asking.specs.Goes.{Goes}
use Rattle.eval.specs.Groups.{in_graphs}
use Rattle.eval.proofs.Folds.{parts_on, union_on}
use Rattle.eval.proofs.solving.+solve.Given as goal

-- what is found so far, gone on with by the patterns that are left, is what all give
abbrev pub invariant-solve_parts-loop-link : goal.invariant-solve_parts-loop-link
invariant-solve_parts-loop-link g l = record {
  goes : (written : Option (Slot Id)) → is_graph_written id_order written (Only l.active) ≡ true → Goes g.S.Source.asks (is_for_plan id_order written (linked_all nothing (parts_of l.parts))) l.fn.source l.source l.fn.notes.items l.notes.items None;
  found : (d : View) → Agrees l.notes.items d →
      parts_on (g.F.Filters.passes l.query.filters.now) l.query.width (applied l.query.changes.now d) l.active l.found (drop l.link-index l.parts)
      ≡ solutions id_order (g.F.Filters.passes l.query.filters.now) l.query.width (linked_all nothing (parts_of l.parts)) (applied l.query.changes.now d) l.active;
}

-- what is found so far, with what the patterns that are left give, is what all give
abbrev pub invariant-solve_union-loop-plan : goal.invariant-solve_union-loop-plan
invariant-solve_union-loop-plan g l = record {
  goes : (written : Option (Slot Id)) → is_graph_written id_order written (Only l.active) ≡ true → Goes g.S.Source.asks (is_for_plan id_order written (united (map plan_of l.fn.plans))) l.fn.source l.source l.fn.notes.items l.notes.items None;
  found : (d : View) → Agrees l.notes.items d →
      union_on (g.F.Filters.passes l.query.filters.now) l.query.width (applied l.query.changes.now d) l.active l.found (drop l.plan-index l.rest)
      ≡ solutions id_order (g.F.Filters.passes l.query.filters.now) l.query.width (united (map plan_of l.fn.plans)) (applied l.query.changes.now d) l.active;
}

-- what was found, with what the graphs that are left give, is what all give
abbrev pub invariant-solve_graphs-loop-name : goal.invariant-solve_graphs-loop-name
invariant-solve_graphs-loop-name g l = record {
  goes : Goes g.S.Source.asks (is_for_plan id_order (Some (Variable l.variable)) (plan_of l.plan)) l.fn.source l.source l.fn.notes.items l.notes.items None;
  found : (d : View) → Agrees l.notes.items d →
      l.found.items ++ in_graphs (g.F.Filters.passes l.query.filters.now) l.query.width l.variable (plan_of l.plan) (applied l.query.changes.now d) (drop l.name-index l.names)
      ≡ in_graphs (g.F.Filters.passes l.query.filters.now) l.query.width l.variable (plan_of l.plan) (applied l.query.changes.now d) l.names;
}
