use Rattle.std.proofs.Common.{◌≡◌, ◌++◌, take, map}
use Rattle.std.specs.List.{flat_map}
use Rattle.algebra.specs.Expressions.{expression_of}
use Rattle.rules.specs.Terms.{terms_of_expression}
use Rattle.rules.proofs.block_terms.add_expressions.Given as goal

abbrev pub invariant-loop-expression : goal.invariant-loop-expression
invariant-loop-expression l = l.found.items ≡ l.fn.found.items ++ flat_map terms_of_expression (map expression_of (take l.expression-index l.expressions))
