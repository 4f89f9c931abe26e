use Rattle.std.proofs.Common.{◌≡◌, drop}
use Rattle.names.specs.Numbers.{labels_of, with_labels}
use Rattle.names.proofs.numbers.Labels.add_nodes.Given as goal

abbrev pub invariant-loop-node : goal.invariant-loop-node
invariant-loop-node l = with_labels (labels_of (drop l.node-index l.nodes)) l.self ≡ with_labels (labels_of l.nodes) l.fn.self
