use Rattle.std.proofs.Common.{◌≡◌, ◌+◌, ◌*◌, length}
use Rattle.syntax_trees.specs.Operators.{rank}
use Rattle.syntax_trees.specs.Expressions.{tree_of}
use Rattle.expressions.specs.Reading.{operand_with, level_with, expression_at}
use Rattle.expressions.proofs.Words.{weight}
use Rattle.expressions.proofs.ChainLaws.{more_all}
use Rattle.expressions.proofs.parse.+expressions.Given as goal

abbrev pub decreases-expression_at : goal.decreases-expression_at
decreases-expression_at l = 32 * l.depth

abbrev pub decreases-two_at : goal.decreases-two_at
decreases-two_at l = 32 * l.depth + 2

abbrev pub decreases-arguments_at : goal.decreases-arguments_at
decreases-arguments_at l = 32 * l.depth + 3

abbrev pub decreases-primary_at : goal.decreases-primary_at
decreases-primary_at l = 32 * l.depth + 4

abbrev pub decreases-not_at : goal.decreases-not_at
decreases-not_at l = 32 * l.depth + 5

abbrev pub decreases-relation_at : goal.decreases-relation_at
decreases-relation_at l = 32 * l.depth + 12

abbrev pub decreases-operand_at : goal.decreases-operand_at
decreases-operand_at l = 32 * l.depth + weight l.level

abbrev pub decreases-level_at : goal.decreases-level_at
decreases-level_at l = 32 * l.depth + (weight l.level + 1)

abbrev pub invariant-level_at-loop-operator : goal.invariant-level_at-loop-operator
invariant-level_at-loop-operator l = more_all (operand_with l.depth (expression_at l.depth) l.level) (rank l.level) (tree_of l.left) l.rest ≡ level_with l.fn.depth (expression_at l.fn.depth) l.fn.level l.fn.tokens

abbrev pub decreases-level_at-loop-operator : goal.decreases-level_at-loop-operator
decreases-level_at-loop-operator l = length l.rest
