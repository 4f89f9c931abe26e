use Rattle.std.proofs.Common.{◌≡◌, ◌++◌, drop}
use Rattle.std.specs.Prelude.{filter_map}
use Rattle.names.specs.Numbers.{variable_of}
use Rattle.names.proofs.numbers.variable_names.Given as goal

abbrev pub invariant-loop-node : goal.invariant-loop-node
invariant-loop-node l = l.names.items ++ filter_map variable_of (drop l.node-index l.nodes) ≡ filter_map variable_of l.nodes
