use Rattle.std.proofs.Common.{rules, arith, ap}
use Rattle.syntax_trees.specs.Expressions.{tree_of}
use Rattle.nodes.proofs.TreeLaws.{weight}
use Rattle.group_translation.proofs.PlanLaws.{descended}
use Rattle.group_translation.proofs.groups.+translated_tree.Goals as goal

pub loop-rest-preserved : goal.loop-rest-preserved
loop-rest-preserved t c = record {
  told = descended _ _ _ _ _ _ _ _ c.loop-rest.invariant.told c.in_ok-push-in-Binary.ensures.items c.in_ok-right-in-Binary.ensures (rw (c.in-Binary.is, c.operator_of.ensures) (search rules));
  no_deeper = omega (arith, ap (λ e. weight (tree_of e)) c.in-Binary.is, ap (λ e. weight (tree_of e)) c.deref-rest.ensures, c.loop-rest.invariant.no_deeper);
}
