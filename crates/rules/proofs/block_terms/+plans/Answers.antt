use Rattle.std.proofs.Common.{◌++◌, map, sym, ap, ◌∙◌}
use Rattle.std.specs.List.{flat_map}
use Rattle.std.proofs.lemmas.List.{append_assoc}
use Rattle.std.proofs.lemmas.Result.{on_ok_weaker}
use Rattle.algebra.specs.Expressions.{expression_of}
use Rattle.algebra.specs.Plans.{parts_of, plan_of}
use Rattle.rules.specs.Parts.{terms_of_part}
use Rattle.rules.specs.Terms.{terms_of_place, terms_of_expression, terms_of_plan}
use Rattle.rules.proofs.TermLaws.{group_terms, graph_terms}
use Rattle.rules.proofs.block_terms.+plans.Goals as goal

pub add_plan-returns-in_ok-add_parts-in-Group : goal.add_plan-returns-in_ok-add_parts-in-Group
add_plan-returns-in_ok-add_parts-in-Group t c =
    let found = c.args.found.now.items in
    let parts = flat_map terms_of_part (parts_of c.in-Group.parts.items) in
    let filters = flat_map terms_of_expression (map expression_of c.in-Group.filters.items) in
    let is = ap (λ p. terms_of_plan (plan_of p)) c.in-Group.is ∙ group_terms c.in-Group.parts c.in-Group.filters in
    on_ok_weaker c.add_expressions.result
    (λ added.
    added
    ∙ ap (λ es. c.add_parts.new.found.items ++ flat_map terms_of_expression (map expression_of es)) c.as_slice-in-Group-2.ensures.value
    ∙ ap (λ xs. xs ++ filters) (c.in_ok-add_parts-in-Group.ensures ∙ ap (λ ps. found ++ flat_map terms_of_part (parts_of ps)) c.as_slice-in-Group.ensures.value)
    ∙ append_assoc found parts filters
    ∙ ap (λ xs. found ++ xs) (sym is))
    c.add_expressions.ensures

pub add_plan-returns-in_ok-add_place-in-InGraph : goal.add_plan-returns-in_ok-add_place-in-InGraph
add_plan-returns-in_ok-add_place-in-InGraph t c =
    let found = c.args.found.now.items in
    let inner = terms_of_plan (plan_of c.in-InGraph.inner.value) in
    let is = ap (λ p. terms_of_plan (plan_of p)) c.in-InGraph.is ∙ graph_terms c.in-InGraph.graph c.in-InGraph.inner in
    on_ok_weaker c.add_plan.result
    (λ added.
    added
    ∙ ap (λ p. c.add_place.new.found.items ++ terms_of_plan (plan_of p)) c.deref.ensures
    ∙ ap (λ xs. xs ++ inner) c.in_ok-add_place-in-InGraph.ensures
    ∙ append_assoc found (terms_of_place c.in-InGraph.graph) inner
    ∙ ap (λ xs. found ++ xs) (sym is))
    c.add_plan.ensures
