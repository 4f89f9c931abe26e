use Rattle.std.proofs.Common.{◌≡◌, true, drop, map}
use Rattle.std.specs.List.{list_all}
use Rattle.algebra.specs.Plans.{Plan, linked_all, parts_of, plan_of}
use Rattle.datasets.specs.declared.id.Id.{Id}
use Rattle.dict.specs.Dictionary.{term_of, is_known}
use Rattle.meaning_laws.specs.Renaming.{renamed_plan, plan_known}
use Rattle.store.specs.Held.{is_held}
use Rattle.numbering.specs.Parts.{part_known}
use Rattle.store.proofs.Loops.{SoFar}
use Rattle.numbering.proofs.plans.+plans.Given as goal

abbrev pub invariant-number_parts-loop-part : goal.invariant-number_parts-loop-part
invariant-number_parts-loop-part l = record {
  is : (before : Plan Id) → linked_all (renamed_plan (term_of l.numbers) (linked_all before (parts_of l.list.items))) (parts_of (drop l.part-index l.parts)) ≡ linked_all (renamed_plan (term_of l.numbers) before) (parts_of l.parts);
  known : list_all (part_known (is_known l.numbers)) (parts_of l.list.items) ≡ true;
  held : list_all (part_known (is_held l.numbers)) (parts_of (drop l.part-index l.parts)) ≡ true;
}

abbrev pub invariant-number_plans-loop-plan : goal.invariant-number_plans-loop-plan
invariant-number_plans-loop-plan l = SoFar (renamed_plan (term_of l.numbers)) (plan_known (is_known l.numbers)) (plan_known (is_held l.numbers)) (map plan_of l.list.items) (map plan_of (drop l.plan-index l.plans)) (map plan_of l.plans)
