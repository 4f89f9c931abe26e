use Rattle.std.proofs.Common.{◌≡◌, List, map, sym, ap, ◌∙◌}
use Rattle.std.specs.Prelude.{Some, is_some}
use Rattle.std.specs.Option.{option_map}
use Rattle.datasets.specs.declared.id.Id.{Id}
use Rattle.algebra.specs.declared.expression.TwoOperator.{TwoOperator}
use Rattle.algebra.specs.declared.expression.Expression.{Expression as Kept}
use Rattle.algebra.specs.Expressions.{expression_of}
use Rattle.values.specs.Values.{truth}
use Rattle.dict.specs.Dictionary.{term_of}
use Rattle.expr.specs.Outcomes.{seen}
use Rattle.expr.proofs.ValueLaws.{chain_value, step_value, value_at, term_renamed, bound_renamed, variable_told, bound_told, chain_told, chain_step}
use Rattle.expr.proofs.evaluate.+value.Goals as goal

pub returns-in-Variable : goal.returns-in-Variable
returns-in-Variable t c =
    let told = variable_told c.args.expression.now c.in-Variable.variable c.in-Variable.is in
    c.bound.ensures ∙ ap (option_map (term_of c.args.dict.now)) c.at.ensures ∙ term_renamed c.args.dict.now c.args.mapping.now c.in-Variable.variable
    ∙ sym (ap (value_at c.args.dict.now c.args.mapping.now) told)

pub returns-in-Bound : goal.returns-in-Bound
returns-in-Bound t c =
    let told = bound_told c.args.expression.now c.in-Bound.variable c.in-Bound.is in
    ap (λ b. Some (truth b)) (c.is_some.ensures ∙ ap is_some c.at-in-Bound.ensures) ∙ bound_renamed c.args.dict.now c.args.mapping.now c.in-Bound.variable
    ∙ sym (ap (value_at c.args.dict.now c.args.mapping.now) told)

pub loop-operator-init : goal.loop-operator-init
loop-operator-init t c =
    let first : seen c.in_ok-so_far-in-Chain.so_far ≡ value_at c.args.dict.now c.args.mapping.now (expression_of c.in-Chain.first.value) =
    c.in_ok-so_far-in-Chain.ensures ∙ ap (λ (e : Kept Id). value_at c.args.dict.now c.args.mapping.now (expression_of e)) c.deref-in-Chain.ensures in
    ap (λ v. chain_value v (map (step_value c.args.dict.now c.args.mapping.now) c.deref-operator-items.result.now)) first
    ∙ ap (λ (ss : List (TwoOperator × Kept Id)). chain_value (value_at c.args.dict.now c.args.mapping.now (expression_of c.in-Chain.first.value)) (map (step_value c.args.dict.now c.args.mapping.now) ss)) c.deref-operator-items.ensures.value
    ∙ chain_told c.args.dict.now c.args.mapping.now c.in-Chain.first c.in-Chain.steps ∙ sym (ap (λ (e : Kept Id). value_at c.args.dict.now c.args.mapping.now (expression_of e)) c.in-Chain.is)

pub loop-operator-preserved : goal.loop-operator-preserved
loop-operator-preserved t c =
    chain_step c.args.dict.now c.args.mapping.now c.deref-operator-items.result.now c.loop-operator.operator-index c.loop-operator-item.result (seen c.loop-operator.so_far) (seen c.in_ok-so_far-in-Chain-2.so_far)
    (seen c.in_ok-right-in-Chain.right) (value_at c.args.dict.now c.args.mapping.now (expression_of c.args.expression.now)) c.loop-operator-test.true c.loop-operator-item.is c.in_ok-so_far-in-Chain-2.ensures c.in_ok-right-in-Chain.ensures c.loop-operator.invariant
