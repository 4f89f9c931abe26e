use Rattle.std.proofs.Common.{◌++◌, ◌+◌, ◌∷◌, List, drop, sym, ap, ◌∙◌}
use Rattle.std.specs.List.{flat_map}
use Rattle.std.proofs.lemmas.List.{append_assoc, drop_more}
use Rattle.std.proofs.lemmas.Result.{on_ok_weaker}
use Rattle.algebra.specs.declared.expression.Expression.{Expression}
use Rattle.algebra.specs.declared.expression.TwoOperator.{TwoOperator}
use Rattle.algebra.specs.Expressions.{expression_of}
use Rattle.terms.specs.declared.term.Term.{Term}
use Rattle.rules.specs.Terms.{terms_of_expression}
use Rattle.rules.proofs.TermLaws.{chain_terms, two_terms}
use Rattle.rules.proofs.block_terms.+add_expression.Goals as goal

-- the terms of the operands of a chain
abbrev terms_of_steps : List (TwoOperator × Expression Term) → List Term
terms_of_steps = flat_map (λ (s : TwoOperator × Expression Term). terms_of_expression (expression_of s.1))

pub loop-step-init : goal.loop-step-init
loop-step-init t c =
    let found = c.args.found.now.items in
    let first = terms_of_expression (expression_of c.in-Chain.first.value) in
    let is = ap (λ e. terms_of_expression (expression_of e)) c.in-Chain.is ∙ chain_terms c.in-Chain.first c.in-Chain.steps in
    ap (λ xs. xs ++ terms_of_steps c.deref-step-items.result.now)
    (c.in_ok-add_expression-in-Chain.ensures ∙ ap (λ e. found ++ terms_of_expression (expression_of e)) c.deref-in-Chain.ensures)
    ∙ append_assoc found first (terms_of_steps c.deref-step-items.result.now)
    ∙ ap (λ steps. found ++ (first ++ terms_of_steps steps)) c.deref-step-items.ensures.value
    ∙ ap (λ xs. found ++ xs) (sym is)

pub loop-step-preserved : goal.loop-step-preserved
loop-step-preserved t c =
    let found = c.loop-step.found.items in
    let step = terms_of_expression (expression_of c.step-item.result.1) in
    let rest = drop (c.loop-step.step-index + 1) c.deref-step-items.result.now in
    let is = drop_more c.deref-step-items.result.now c.loop-step.step-index c.step-item.result c.loop-step-test.true ∙ ap (λ s. s ∷ rest) (sym c.step-item.is) in
    ap (λ xs. xs ++ terms_of_steps rest) c.in_ok-add_expression-in-Chain-2.ensures
    ∙ append_assoc found step (terms_of_steps rest)
    ∙ ap (λ steps. found ++ terms_of_steps steps) (sym is)
    ∙ c.loop-step.invariant

pub returns-in_ok-add_expression-in-Two : goal.returns-in_ok-add_expression-in-Two
returns-in_ok-add_expression-in-Two t c =
    let found = c.args.found.now.items in
    let left = terms_of_expression (expression_of c.in-Two.left.value) in
    let right = terms_of_expression (expression_of c.in-Two.right.value) in
    let is = ap (λ e. terms_of_expression (expression_of e)) c.in-Two.is ∙ two_terms c.in-Two.field-0 c.in-Two.left c.in-Two.right in
    on_ok_weaker c.add_expression-in-Two-2.result
    (λ added.
    added
    ∙ ap (λ e. c.add_expression-in-Two.new.found.items ++ terms_of_expression (expression_of e)) c.deref-in-Two-2.ensures
    ∙ ap (λ xs. xs ++ right) (c.in_ok-add_expression-in-Two.ensures ∙ ap (λ e. found ++ terms_of_expression (expression_of e)) c.deref-in-Two.ensures)
    ∙ append_assoc found left right
    ∙ ap (λ xs. found ++ xs) (sym is))
    c.add_expression-in-Two-2.ensures
