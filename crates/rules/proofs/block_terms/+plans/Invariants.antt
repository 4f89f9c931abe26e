use Rattle.std.proofs.Common.{◌≡◌, ◌++◌, take, map}
use Rattle.std.specs.List.{flat_map}
use Rattle.algebra.specs.Plans.{parts_of, plan_of}
use Rattle.rules.specs.Parts.{terms_of_part}
use Rattle.rules.specs.Terms.{terms_of_plan}
use Rattle.rules.proofs.block_terms.+plans.Given as goal

abbrev pub invariant-add_parts-loop-part : goal.invariant-add_parts-loop-part
invariant-add_parts-loop-part l = l.found.items ≡ l.fn.found.items ++ flat_map terms_of_part (parts_of (take l.part-index l.parts))

abbrev pub invariant-add_plans-loop-plan : goal.invariant-add_plans-loop-plan
invariant-add_plans-loop-plan l = l.found.items ≡ l.fn.found.items ++ flat_map terms_of_plan (map plan_of (take l.plan-index l.plans))
