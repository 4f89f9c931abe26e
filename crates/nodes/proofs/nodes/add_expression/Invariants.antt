use Rattle.std.proofs.Common.{◌≡◌, ◌++◌}
use Rattle.syntax_trees.specs.Expressions.{tree_of}
use Rattle.nodes.specs.Nodes.{nodes_of_tree}
use Rattle.nodes.specs.Pending.{pending_nodes, pending_weight}
use Rattle.nodes.proofs.nodes.add_expression.Given as goal

abbrev pub invariant-loop-next : goal.invariant-loop-next
invariant-loop-next l = l.found.items ++ pending_nodes l.pending.items ≡ l.fn.found.items ++ nodes_of_tree (tree_of l.fn.expression)

abbrev pub decreases-loop-next : goal.decreases-loop-next
decreases-loop-next l = pending_weight l.pending.items
