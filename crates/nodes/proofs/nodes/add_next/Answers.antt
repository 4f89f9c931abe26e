use Rattle.std.proofs.Common.{[], ◌∷◌, refl, ap, sym, ◌∙◌}
use Rattle.std.proofs.lemmas.Result.{on_ok_weaker}
use Rattle.syntax_trees.specs.declared.tree.Node.TheVariants as node
use Rattle.syntax_trees.specs.Expressions.{tree_of}
use Rattle.nodes.specs.Nodes.{nodes_of_tree}
use Rattle.nodes.proofs.TreeLaws.{seen, operands_put}
use Rattle.nodes.proofs.nodes.add_next.Goals as goal

pub returns-in-Value-clause-nodes : goal.returns-in-Value-clause-nodes
returns-in-Value-clause-nodes c =
    on_ok_weaker c.add_node.result (seen c.args.found.now.items c.add_node.new.found.items c.args.pending.now.items c.args.next _ (ap (λ e. nodes_of_tree (tree_of e)) c.in-Value.is)) c.add_node.ensures

pub returns-in-Bound-clause-nodes : goal.returns-in-Bound-clause-nodes
returns-in-Bound-clause-nodes c =
    on_ok_weaker c.add_node-in-Bound.result (seen c.args.found.now.items c.add_node-in-Bound.new.found.items c.args.pending.now.items c.args.next _ (ap (λ e. nodes_of_tree (tree_of e)) c.in-Bound.is ∙ ap (λ v. node.Variable v ∷ []) (sym c.again.ensures))) c.add_node-in-Bound.ensures

pub returns-in-Binary-clause-nodes : goal.returns-in-Binary-clause-nodes
returns-in-Binary-clause-nodes c =
    on_ok_weaker c.put_two.result (operands_put c.args.found.now.items c.args.pending.now.items c.put_two.new.pending.items c.args.next c.deref-in-Binary.result c.deref-in-Binary-2.result (rw (c.in-Binary.is, c.deref-in-Binary.ensures, c.deref-in-Binary-2.ensures) refl)) c.put_two.ensures

pub returns-in-Two-clause-nodes : goal.returns-in-Two-clause-nodes
returns-in-Two-clause-nodes c =
    on_ok_weaker c.put_two-in-Two.result (operands_put c.args.found.now.items c.args.pending.now.items c.put_two-in-Two.new.pending.items c.args.next c.deref-in-Two.result c.deref-in-Two-2.result (rw (c.in-Two.is, c.deref-in-Two.ensures, c.deref-in-Two-2.ensures) refl)) c.put_two-in-Two.ensures
