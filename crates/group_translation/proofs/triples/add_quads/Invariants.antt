use Rattle.std.proofs.Common.{◌≡◌, ◌++◌, drop}
use Rattle.group_translation.specs.Triples.{of_triples, graph_of, quad_of}
use Rattle.group_translation.proofs.triples.add_quads.Given as goal

abbrev pub invariant-loop-same : goal.invariant-loop-same
invariant-loop-same l = l.found ++ of_triples (quad_of l.within.scope.now.prefixes.now l.within.scope.now.variables.now l.within.scope.now.labels.now (graph_of l.within.scope.now.prefixes.now l.within.scope.now.variables.now l.within.scope.now.labels.now l.within.with.now l.within.graph.now)) (drop l.same-index l.triples) ≡ l.fn.found ++ of_triples (quad_of l.within.scope.now.prefixes.now l.within.scope.now.variables.now l.within.scope.now.labels.now (graph_of l.within.scope.now.prefixes.now l.within.scope.now.variables.now l.within.scope.now.labels.now l.within.with.now l.within.graph.now)) l.triples
