use Rattle.std.proofs.Common.{◌≡◌, ◌≤◌}
use Rattle.syntax_trees.specs.Expressions.{tree_of}
use Rattle.algebra.specs.Expressions.{steps_of}
use Rattle.group_translation.specs.Chains.{stacked}
use Rattle.group_translation.specs.Groups.{translated_tree}
use Rattle.nodes.proofs.TreeLaws.{weight}
use Rattle.group_translation.proofs.groups.+translated_tree.Given as goal

abbrev pub decreases-translated_tree : goal.decreases-translated_tree
decreases-translated_tree l = weight (tree_of l.expression.now)

abbrev pub invariant-loop-rest : goal.invariant-loop-rest
invariant-loop-rest l = record {
  told : stacked (translated_tree l.scope.prefixes.now l.scope.variables.now (tree_of l.rest)) (steps_of l.steps.items) ≡ translated_tree l.scope.prefixes.now l.scope.variables.now (tree_of l.fn.expression);
  no_deeper : weight (tree_of l.rest) ≤ weight (tree_of l.fn.expression);
}

abbrev pub decreases-loop-rest : goal.decreases-loop-rest
decreases-loop-rest l = weight (tree_of l.rest)
