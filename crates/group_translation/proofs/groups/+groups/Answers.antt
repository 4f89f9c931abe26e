use Rattle.std.proofs.Common.{◌++◌, map, sym, ap, ◌∙◌}
use Rattle.std.proofs.lemmas.List.{append-nil, at_drop_all}
use Rattle.std.proofs.lemmas.Result.{on_ok_weaker}
use Rattle.algebra.specs.Plans.{nothing, linked_all, plan_of}
use Rattle.algebra.specs.Plans.{parts_of as linked_parts}
use Rattle.algebra.specs.Plans as plans
use Rattle.algebra.proofs.Folds.{union_is as united_is}
use Rattle.syntax_trees.specs.Groups.{part_of, lists_of, group, groups}
use Rattle.group_translation.specs.Groups.{with_part, translated_groups}
use Rattle.nodes.proofs.GroupLaws.{union_is}
use Rattle.group_translation.proofs.groups.+groups.Goals as goal

pub add_part-returns-after-loop-elements : goal.add_part-returns-after-loop-elements
add_part-returns-after-loop-elements t c =
    let prefixes = c.args.scope.now.prefixes.now in
    let variables = c.args.scope.now.variables.now in
    let before = linked_all nothing (linked_parts c.args.parts.now.items) in
    let members = c.deref-elements-items.result.now in
    let made = map plan_of c.loop-elements.plans.items in
    let all =
    sym (append-nil made)
    ∙ ap (λ rest. made ++ rest) (sym (at_drop_all (λ gs. translated_groups prefixes variables (groups (map group (lists_of gs)))) members c.loop-elements.elements-index c.loop-elements-test.false))
    ∙ c.loop-elements.invariant
    ∙ ap (λ gs. translated_groups prefixes variables (groups (map group (lists_of gs)))) c.deref-elements-items.ensures.value in
    on_ok_weaker c.link.result
    (λ linked.
    linked
    ∙ ap (λ p. plans.Join before p) (united_is c.loop-elements.plans ∙ ap plans.united all)
    ∙ ap (with_part prefixes variables before) (sym (ap part_of c.in-Union.is ∙ union_is c.in-Union.members)))
    c.link.ensures
