use Rattle.std.proofs.Common.{rules, ◌+◌, drop, map, sym, ap, ◌∙◌}
use Rattle.std.specs.List.{list_all}
use Rattle.std.proofs.lemmas.Bool.{and_parts, and_from}
use Rattle.algebra.proofs.Folds.{group_is}
use Rattle.algebra.specs.declared.plan.Plan.TheFolds.{the_lemmas}
use Rattle.algebra.specs.Expressions.{expression_of}
use Rattle.algebra.specs.Plans.{nothing, linked_all, filtered, parts_of, plan_of}
use Rattle.dict.specs.Dictionary.{term_of, is_known}
use Rattle.meaning_laws.specs.Renaming.{renamed_plan, expression_known, plan_known}
use Rattle.store.specs.Held.{is_held}
use Rattle.numbering.specs.Parts.{link_known, part_known}
use Rattle.store.proofs.Loops.{drop_next}
use Rattle.numbering.proofs.PlanLaws.{group_known, union_known, parts_known, plans_known, filtered_renamed, all_push, part_renamed}
use Rattle.numbering.proofs.plans.+plans.Goals as goal

pub number_parts-loop-part-preserved : goal.number_parts-loop-part-preserved
number_parts-loop-part-preserved t c =
    let f = term_of c.args.numbers.now in
    let held = is_held c.args.numbers.now in
    let known = is_known c.args.numbers.now in
    let part = c.part-item.result in
    let link = c.in_ok-link.link in
    let plan = c.in_ok-number_plan.field-0 in
    let list = c.loop-part.list.items in
    let rest = drop (c.loop-part.part-index + 1) c.args.parts.now in
    let is = drop_next c.args.parts.now c.loop-part.part-index part c.loop-part-test.true c.part-item.is in
    let parts = and_parts (part_known held (part.0, plan_of part.1)) (list_all (part_known held) (parts_of rest)) (ap (λ parts. list_all (part_known held) (parts_of parts)) (sym is) ∙ c.loop-part.invariant.held) in
    record {
      is = λ before.
          ap (λ parts. linked_all (renamed_plan f (linked_all before (parts_of parts))) (parts_of rest)) c.in_ok-push.ensures.items
          ∙ part_renamed f before list link plan part.0 part.1 rest (λ b p. c.in_ok-link.ensures.renamed b p) c.in_ok-number_plan.ensures.renamed
          ∙ ap (λ parts. linked_all (renamed_plan f (linked_all before (parts_of list))) (parts_of parts)) (sym is)
          ∙ c.loop-part.invariant.is before;
      known =
          ap (λ parts. list_all (part_known known) (parts_of parts)) c.in_ok-push.ensures.items
          ∙ all_push (part_known known) (λ p. (p.0, plan_of p.1)) list (link, plan) c.loop-part.invariant.known
          (and_from (plan_known known (plan_of plan)) (link_known known link) c.in_ok-number_plan.ensures.known c.in_ok-link.ensures.known);
      held = parts.1;
    }

pub number_plan-returns-in_ok-filters-in-Group-clause-renamed : goal.number_plan-returns-in_ok-filters-in-Group-clause-renamed
number_plan-returns-in_ok-filters-in-Group-clause-renamed t c =
    let f = term_of c.args.numbers.now in
    let parts = c.in_ok-parts-in-Group.parts in
    let filters = c.in_ok-filters-in-Group.filters in
    let made = linked_all nothing (parts_of parts.items) in
    ap (renamed_plan f) (group_is parts filters)
    ∙ filtered_renamed f (map expression_of filters.items) made
    ∙ ap (λ es. filtered es (renamed_plan f made)) (c.in_ok-filters-in-Group.ensures.renamed ∙ ap (map expression_of) c.as_slice-in-Group-2.ensures.value)
    ∙ ap (filtered (map expression_of c.in-Group.filters.items)) (c.in_ok-parts-in-Group.ensures.renamed nothing ∙ ap (λ ps. linked_all nothing (parts_of ps)) c.as_slice-in-Group.ensures.value)
    ∙ sym (ap plan_of c.in-Group.is ∙ group_is c.in-Group.parts c.in-Group.filters)

pub number_plan-returns-in_ok-filters-in-Group-clause-known : goal.number_plan-returns-in_ok-filters-in-Group-clause-known
number_plan-returns-in_ok-filters-in-Group-clause-known t c =
    let known = is_known c.args.numbers.now in
    let parts = c.in_ok-parts-in-Group.parts in
    let filters = c.in_ok-filters-in-Group.filters in
    group_known known parts filters
    ∙ and_from (list_all (expression_known known) (map expression_of filters.items)) (list_all (part_known known) (parts_of parts.items)) c.in_ok-filters-in-Group.ensures.known c.in_ok-parts-in-Group.ensures.known

pub number_plan-number_parts-requires : goal.number_plan-number_parts-requires
number_plan-number_parts-requires t c =
    (search (rules, the_lemmas), parts_known (is_held c.args.numbers.now) c.in-Group.parts c.in-Group.filters c.args.plan.now c.as_slice-in-Group.result.now c.in-Group.is c.as_slice-in-Group.ensures.value c.requires)

pub number_plan-number_plans-requires : goal.number_plan-number_plans-requires
number_plan-number_plans-requires t c =
    (search (rules, the_lemmas), plans_known (is_held c.args.numbers.now) c.in-Union.plans c.args.plan.now c.as_slice-in-Union.result.now c.in-Union.is c.as_slice-in-Union.ensures.value c.requires)

pub number_plan-returns-in_ok-number_plans-in-Union-clause-known : goal.number_plan-returns-in_ok-number_plans-in-Union-clause-known
number_plan-returns-in_ok-number_plans-in-Union-clause-known t c =
    union_known (is_known c.args.numbers.now) c.in_ok-number_plans-in-Union.field-0 ∙ c.in_ok-number_plans-in-Union.ensures.known
