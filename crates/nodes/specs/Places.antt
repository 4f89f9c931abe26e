-- Where in an operation's nodes those of what it deletes and of its WHERE stand.
use Rattle.std.specs.Prelude.{◌≡◌, ◌≤◌, List, take, drop, length}
use Rattle.syntax_trees.specs.declared.tree.Node.{Node}
use Rattle.syntax_trees.specs.declared.tree.Operation.{Operation}
use Rattle.nodes.specs.declared.operation_nodes.Places.{Places}
use Rattle.nodes.specs.Nodes.{nodes_of_blocks, nodes_of_where, nodes_of_operation, deleted_of}

-- the nodes are the operation's, and the places those of its parts
pub record ArePlacesOf (op : Operation) (nodes : List Node) (places : Places) : Type 0 where
  pub all : nodes ≡ nodes_of_operation op
  pub start : places.delete_start ≤ places.delete_end
  pub end : places.delete_end ≤ length nodes
  pub deleted : drop places.delete_start (take places.delete_end nodes) ≡ nodes_of_blocks (deleted_of op)
  pub within : places.where_start ≤ length nodes
  pub last : drop places.where_start nodes ≡ nodes_of_where op
