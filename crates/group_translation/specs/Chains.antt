-- Expressions under operators with their right operands, the outermost first.
use Rattle.std.specs.Prelude.{List, [], ◌∷◌}
use Rattle.terms.specs.declared.term.Term.{Term}
use Rattle.algebra.specs.declared.expression.TwoOperator.{TwoOperator}
use Rattle.algebra.specs.Expressions.{Expression, Two}

abbrev pub stacked : Expression Term → List (TwoOperator × Expression Term) → Expression Term
stacked first [] = first
stacked first (s ∷ ss) = Two s.0 (stacked first ss) s.1
