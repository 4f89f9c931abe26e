use Rattle.std.proofs.Common.{◌≡◌, drop}
use Rattle.std.specs.List.{list_any}
use Rattle.faults.specs.Faults.{is_undeclared_node}
use Rattle.faults.proofs.faults.any_undeclared.Given as goal

abbrev pub invariant-loop-node : goal.invariant-loop-node
invariant-loop-node l = list_any (is_undeclared_node l.prefixes) (drop l.node-index l.nodes) ≡ list_any (is_undeclared_node l.prefixes) l.nodes
