use Rattle.std.proofs.Common.{◌≡◌, ◌++◌, drop, map}
use Rattle.algebra.specs.Plans.{nothing, linked_all, plan_of}
use Rattle.algebra.specs.Plans as plans
use Rattle.syntax_trees.specs.Groups.{parts_of, lists_of, group, groups}
use Rattle.group_translation.specs.Groups.{with_parts, translated_groups}
use Rattle.group_translation.proofs.groups.+groups.Given as goal

abbrev pub invariant-parts_of-loop-element : goal.invariant-parts_of-loop-element
invariant-parts_of-loop-element l =
    with_parts l.scope.prefixes.now l.scope.variables.now (linked_all nothing (plans.parts_of l.parts.items)) (group (parts_of (drop l.element-index l.elements)))
    ≡ with_parts l.scope.prefixes.now l.scope.variables.now nothing (group (parts_of l.fn.elements))

abbrev pub invariant-add_part-loop-elements : goal.invariant-add_part-loop-elements
invariant-add_part-loop-elements l =
    map plan_of l.plans.items ++ translated_groups l.scope.prefixes.now l.scope.variables.now (groups (map group (lists_of (drop l.elements-index l.elements-items))))
    ≡ translated_groups l.scope.prefixes.now l.scope.variables.now (groups (map group (lists_of l.elements-items)))
