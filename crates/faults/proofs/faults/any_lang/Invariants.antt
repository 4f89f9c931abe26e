use Rattle.std.proofs.Common.{◌≡◌, drop}
use Rattle.std.specs.List.{list_any}
use Rattle.faults.specs.Faults.{is_lang_node}
use Rattle.faults.proofs.faults.any_lang.Given as goal

abbrev pub invariant-loop-node : goal.invariant-loop-node
invariant-loop-node l = list_any (is_lang_node l.prefixes) (drop l.node-index l.nodes) ≡ list_any (is_lang_node l.prefixes) l.nodes
