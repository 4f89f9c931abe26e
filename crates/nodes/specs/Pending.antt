-- A stack of expressions that are still to come, the last of them first.
use Rattle.std.specs.Prelude.{ℕ, suc, ◌+◌, List, [], ◌∷◌, ◌++◌}
use denote.Ref.{Bor}
use Rattle.syntax_trees.specs.declared.tree.Node.{Node}
use Rattle.syntax_trees.specs.declared.expression.Expression.{Expression}
use Rattle.syntax_trees.specs.Expressions as tree
use Rattle.syntax_trees.specs.Expressions.{Tree, tree_of}
use Rattle.nodes.specs.Nodes.{nodes_of_tree}

-- how many trees a tree has in it
abbrev pub weight : Tree → ℕ
weight (tree.Binary o e f) = suc (weight e + weight f)
weight (tree.Not e) = suc (weight e)
weight (tree.Value n) = 1
weight (tree.Bound v) = 1
weight (tree.Call c e) = suc (weight e)
weight (tree.CallTwo c e f) = suc (weight e + weight f)

abbrev pub pending_nodes : List (Bor Expression) → List Node
pending_nodes [] = []
pending_nodes (e ∷ es) = pending_nodes es ++ nodes_of_tree (tree_of e.now)

abbrev pub pending_weight : List (Bor Expression) → ℕ
pending_weight [] = 0
pending_weight (e ∷ es) = pending_weight es + weight (tree_of e.now)
