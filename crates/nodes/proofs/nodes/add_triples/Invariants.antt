use Rattle.std.proofs.Common.{◌≡◌, ◌++◌, drop}
use Rattle.nodes.specs.Nodes.{nodes_of_triples}
use Rattle.nodes.proofs.nodes.add_triples.Given as goal

abbrev pub invariant-loop-same : goal.invariant-loop-same
invariant-loop-same l = l.found.items ++ nodes_of_triples (drop l.same-index l.triples) ≡ l.fn.found.items ++ nodes_of_triples l.triples
