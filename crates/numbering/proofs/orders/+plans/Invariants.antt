use Rattle.std.proofs.Common.{◌≡◌, take, map}
use Rattle.std.specs.List.{fold}
use Rattle.algebra.specs.Plans.{parts_of, plan_of}
use Rattle.numbering.specs.Wanted.{with_part, with_plan}
use Rattle.numbering.proofs.orders.+plans.Given as goal

abbrev pub invariant-want_parts-loop-part : goal.invariant-want_parts-loop-part
invariant-want_parts-loop-part l = l.wanted ≡ fold with_part l.fn.wanted (parts_of (take l.part-index l.parts))

abbrev pub invariant-want_plans-loop-plan : goal.invariant-want_plans-loop-plan
invariant-want_plans-loop-plan l = l.wanted ≡ fold with_plan l.fn.wanted (map plan_of (take l.plan-index l.plans))
