use Rattle.std.proofs.Common.{◌≡◌, ◌++◌, drop}
use Rattle.std.specs.List.{flat_map}
use Rattle.nodes.specs.Nodes.{nodes_of_property, nodes_of_subject}
use Rattle.nodes.proofs.nodes.add_subject.Given as goal

abbrev pub invariant-loop-property : goal.invariant-loop-property
invariant-loop-property l = l.found.items ++ flat_map nodes_of_property (drop l.property-index l.same.properties) ≡ l.fn.found.items ++ nodes_of_subject l.same
