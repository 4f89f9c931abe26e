use Rattle.std.proofs.Common.{◌≡◌, drop}
use Rattle.std.specs.List.{list_any}
use Rattle.names.specs.Numbers.{labels_of, is_label_in}
use Rattle.faults.proofs.faults.any_known.Given as goal

abbrev pub invariant-loop-node : goal.invariant-loop-node
invariant-loop-node l = list_any (is_label_in l.known) (labels_of (drop l.node-index l.nodes)) ≡ list_any (is_label_in l.known) (labels_of l.nodes)
