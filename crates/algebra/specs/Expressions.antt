-- Filter expressions, wherever they lie in memory.
use Rattle.std.specs.Prelude.{ℕ, List, [], ◌∷◌, map}
use Rattle.algebra.specs.declared.expression.OneOperator.{OneOperator}
use Rattle.algebra.specs.declared.expression.TwoOperator.{TwoOperator}
use Rattle.algebra.specs.declared.expression.Expression.{Expression as Kept, fold-Expression}
use Rattle.algebra.specs.declared.expression.Expression.TheOpen.{Expression-F}

pub data Expression (K : Type 0) : Type 0 where
  Constant : K → Expression K
  Variable : ℕ → Expression K
  Bound : ℕ → Expression K
  One : OneOperator → Expression K → Expression K
  Two : TwoOperator → Expression K → Expression K → Expression K

module _ {K : Type 0} where
  -- operators with their right operands, from left to right
  abbrev pub chained : Expression K → List (TwoOperator × Expression K) → Expression K
  chained e [] = e
  chained e (step ∷ steps) = chained (Two step.0 e step.1) steps

  -- one level, with each expression inside already seen
  abbrev pub expression_step : Expression-F K (Expression K) → Expression K
  expression_step (Expression-F.Constant t) = Constant t
  expression_step (Expression-F.Variable v) = Variable v
  expression_step (Expression-F.Bound v) = Bound v
  expression_step (Expression-F.One o e) = One o e.value
  expression_step (Expression-F.Two o e f) = Two o e.value f.value
  expression_step (Expression-F.Chain e steps) = chained e.value steps.items

  abbrev pub expression_of : Kept K → Expression K
  expression_of = fold-Expression K (Expression K) expression_step

  abbrev pub steps_of : List (TwoOperator × Kept K) → List (TwoOperator × Expression K)
  steps_of steps = map (λ (s : TwoOperator × Kept K). (s.0, expression_of s.1)) steps
