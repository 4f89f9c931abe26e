-- The tree of a basic pattern, and of one within a graph.
use Rattle.std.specs.Global.{Box}
use Rattle.std.proofs.Common.{◌≡◌, List, sym, ap, ◌∙◌}
use Rattle.algebra.specs.Plans.{Plan, Basic, InGraph, plan_of, plan_step}
use Rattle.algebra.specs.declared.pattern.Place.{Place}
use Rattle.algebra.specs.declared.pattern.TriplePattern.{TriplePattern}
use Rattle.algebra.specs.declared.plan.Plan.{Plan as Kept, fold-roll-Plan}
use Rattle.algebra.specs.declared.plan.Plan.TheOpen.{Plan-F}
use Rattle.algebra.specs.declared.plan.Plan.TheVariants as kept
use Rattle.algebra.specs.declared.plan.Plan.TheVariants.{rolls-Basic, rolls-InGraph}
use Rattle.datasets.specs.declared.id.Id.{Id}

pub basic_is : (ts : List (TriplePattern Id)) → plan_of (kept.Basic ts) ≡ Basic ts
basic_is ts = ap plan_of (sym (rolls-Basic ts)) ∙ fold-roll-Plan Id (Plan Id) plan_step (Plan-F.Basic ts)

pub graph_is : (n : Place Id) (p : Box (Kept Id)) → plan_of (kept.InGraph n p) ≡ InGraph n (plan_of p.value)
graph_is n p = ap plan_of (sym (rolls-InGraph n p)) ∙ fold-roll-Plan Id (Plan Id) plan_step (Plan-F.InGraph n p)
