use Rattle.std.proofs.Common.{rules, ◌+◌, drop, sym, ap, ◌∙◌}
use Rattle.std.specs.List.{list_all}
use Rattle.std.proofs.lemmas.Bool.{and_parts, and_from}
use Rattle.algebra.specs.declared.expression.Expression.TheFolds.{the_lemmas}
use Rattle.algebra.specs.Expressions.{chained, expression_of, steps_of}
use Rattle.dict.specs.Dictionary.{term_of, is_known}
use Rattle.meaning_laws.specs.Renaming.{renamed_expression, expression_known}
use Rattle.store.specs.Held.{is_held}
use Rattle.store.proofs.Loops.{drop_next}
use Rattle.numbering.proofs.PlanLaws.{chain_known, first_known, steps_known, step_known, all_push, step_renamed}
use Rattle.numbering.proofs.plans.+expressions.Goals as goal

pub number_expression-number_expression-requires-in-Chain : goal.number_expression-number_expression-requires-in-Chain
number_expression-number_expression-requires-in-Chain t c =
    (search (rules, the_lemmas), first_known (is_held c.args.numbers.now) c.in-Chain.first c.in-Chain.steps c.args.expression.now c.deref-in-Chain.result.now c.in-Chain.is c.deref-in-Chain.ensures c.requires)

pub number_expression-number_steps-requires : goal.number_expression-number_steps-requires
number_expression-number_steps-requires t c =
    (search (rules, the_lemmas), steps_known (is_held c.args.numbers.now) c.in-Chain.first c.in-Chain.steps c.args.expression.now c.as_slice.result.now c.in-Chain.is c.as_slice.ensures.value c.requires)

pub number_steps-number_expression-requires : goal.number_steps-number_expression-requires
number_steps-number_expression-requires t c =
    (search (rules, the_lemmas), step_known (is_held c.args.numbers.now) c.args.steps.now c.loop-step.step-index c.step-item.result c.loop-step-test.true c.step-item.is c.loop-step.invariant.held)

pub number_expression-returns-in_ok-steps-in-Chain-clause-known : goal.number_expression-returns-in_ok-steps-in-Chain-clause-known
number_expression-returns-in_ok-steps-in-Chain-clause-known t c =
    let known = is_known c.args.numbers.now in
    let first = c.in_ok-first-in-Chain.first in
    let steps = c.in_ok-steps-in-Chain.steps in
    chain_known known first steps
    ∙ and_from (expression_known known (expression_of first.value)) (list_all (λ s. expression_known known s.1) (steps_of steps.items))
    (ap (λ e. expression_known known (expression_of e)) c.in_ok-first-in-Chain.ensures.ok ∙ c.in_ok-number_expression-in-Chain.ensures.known)
    c.in_ok-steps-in-Chain.ensures.known

pub number_steps-loop-step-preserved : goal.number_steps-loop-step-preserved
number_steps-loop-step-preserved t c =
    let f = term_of c.args.numbers.now in
    let held = is_held c.args.numbers.now in
    let known = is_known c.args.numbers.now in
    let step = c.step-item.result in
    let made = c.in_ok-number_expression.field-0 in
    let list = c.loop-step.list.items in
    let rest = drop (c.loop-step.step-index + 1) c.args.steps.now in
    let is = drop_next c.args.steps.now c.loop-step.step-index step c.loop-step-test.true c.step-item.is in
    let parts = and_parts (expression_known held (expression_of step.1)) (list_all (λ s. expression_known held s.1) (steps_of rest)) (ap (λ steps. list_all (λ s. expression_known held s.1) (steps_of steps)) (sym is) ∙ c.loop-step.invariant.held) in
    record {
      is = λ first.
          ap (λ steps. chained (renamed_expression f (chained first (steps_of steps))) (steps_of rest)) c.in_ok-push.ensures.items
          ∙ step_renamed f first list step.0 made step.1 rest c.in_ok-number_expression.ensures.renamed
          ∙ ap (λ steps. chained (renamed_expression f (chained first (steps_of list))) (steps_of steps)) (sym is)
          ∙ c.loop-step.invariant.is first;
      known =
          ap (λ steps. list_all (λ s. expression_known known s.1) (steps_of steps)) c.in_ok-push.ensures.items
          ∙ all_push (λ s. expression_known known s.1) (λ s. (s.0, expression_of s.1)) list (step.0, made) c.loop-step.invariant.known c.in_ok-number_expression.ensures.known;
      held = parts.1;
    }
