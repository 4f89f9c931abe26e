use Rattle.std.proofs.Common.{drop, map}
use Rattle.algebra.specs.Expressions.{expression_of}
use Rattle.dict.specs.Dictionary.{term_of, is_known}
use Rattle.meaning_laws.specs.Renaming.{renamed_expression, expression_known}
use Rattle.store.specs.Held.{is_held}
use Rattle.store.proofs.Loops.{SoFar}
use Rattle.numbering.proofs.plans.number_expressions.Given as goal

abbrev pub invariant-loop-expression : goal.invariant-loop-expression
invariant-loop-expression l = SoFar (renamed_expression (term_of l.numbers)) (expression_known (is_known l.numbers)) (expression_known (is_held l.numbers)) (map expression_of l.list.items) (map expression_of (drop l.expression-index l.expressions)) (map expression_of l.expressions)
