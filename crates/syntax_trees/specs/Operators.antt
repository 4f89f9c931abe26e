-- How tightly operators bind (SPARQL 1.1 Query, 19.8, productions 111 to 117): the higher, the
-- tighter.
use Rattle.std.specs.Prelude.{ℕ}
use Rattle.syntax_trees.specs.declared.expression.Operator.{Operator}
use Rattle.syntax_trees.specs.declared.expression.Operator.TheVariants as operator
use Rattle.syntax_trees.specs.declared.expression.Level.{Level}
use Rattle.syntax_trees.specs.declared.expression.Level.TheVariants as level

abbrev pub rank : Level → ℕ
rank level.Or = 1
rank level.And = 2
rank level.Relation = 3
rank level.Sum = 4
rank level.Product = 5

abbrev pub level_of : Operator → Level
level_of operator.Or = level.Or
level_of operator.And = level.And
level_of operator.Equal = level.Relation
level_of operator.NotEqual = level.Relation
level_of operator.Less = level.Relation
level_of operator.Greater = level.Relation
level_of operator.LessEqual = level.Relation
level_of operator.GreaterEqual = level.Relation
level_of operator.Plus = level.Sum
level_of operator.Minus = level.Sum
level_of operator.Times = level.Product
