use Rattle.std.proofs.Common.{◌≡◌, ◌++◌, drop}
use Rattle.std.specs.List.{flat_map}
use Rattle.algebra.specs.Expressions.{expression_of}
use Rattle.rules.specs.Terms.{terms_of_expression}
use Rattle.rules.proofs.block_terms.+add_expression.Given as goal

abbrev pub invariant-loop-step : goal.invariant-loop-step
invariant-loop-step l = l.found.items ++ flat_map (λ s. terms_of_expression (expression_of s.1)) (drop l.step-index l.step-items) ≡ l.fn.found.items ++ terms_of_expression (expression_of l.fn.expression)
