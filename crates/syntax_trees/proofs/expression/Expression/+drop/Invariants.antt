use Rattle.std.proofs.Common.{◌≤◌}
use Rattle.syntax_trees.specs.declared.expression.Expression.{size-Expression}
use Rattle.syntax_trees.proofs.expression.Expression.+drop.Given as goal

abbrev pub invariant-loop-self : goal.invariant-loop-self
invariant-loop-self l = size-Expression l.self ≤ size-Expression l.fn.self
