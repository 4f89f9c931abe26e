-- Expressions, wherever they lie in memory.
use Rattle.std.specs.Prelude.{ℕ, List}
use Rattle.syntax_trees.specs.declared.expression.Operator.{Operator}
use Rattle.syntax_trees.specs.declared.expression.One.{One}
use Rattle.syntax_trees.specs.declared.expression.Two.{Two}
use Rattle.syntax_trees.specs.declared.expression.Expression.{Expression}
use Rattle.syntax_trees.specs.declared.expression.Expression.TheVariants as expression
use Rattle.syntax_trees.specs.declared.tree.Node.{Node}

pub data Tree : Type 0 where
  Binary : Operator → Tree → Tree → Tree
  Not : Tree → Tree
  Value : Node → Tree
  Bound : List ℕ → Tree
  Call : One → Tree → Tree
  CallTwo : Two → Tree → Tree → Tree

abbrev pub tree_of : Expression → Tree
tree_of (expression.Binary' o p e q f) = Binary o (tree_of e) (tree_of f)
tree_of (expression.Not' p e) = Not (tree_of e)
tree_of (expression.Value n) = Value n
tree_of (expression.Bound v) = Bound v
tree_of (expression.One' k p e) = Call k (tree_of e)
tree_of (expression.Two' k p e q f) = CallTwo k (tree_of e) (tree_of f)
