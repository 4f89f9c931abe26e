use Rattle.std.proofs.Common.{◌≡◌, ◌++◌, drop}
use Rattle.nodes.specs.Nodes.{nodes_of_property}
use Rattle.nodes.proofs.nodes.add_property.Given as goal

abbrev pub invariant-loop-object : goal.invariant-loop-object
invariant-loop-object l = l.found.items ++ drop l.object-index l.property.objects ≡ l.fn.found.items ++ nodes_of_property l.property
