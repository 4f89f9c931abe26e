use Rattle.std.proofs.Common.{◌≡◌, ◌++◌, drop}
use Rattle.std.specs.List.{flat_map}
use Rattle.group_translation.specs.Triples.{of_property, of_subject, graph_of, quad_of}
use Rattle.group_translation.proofs.triples.add_subject_quads.Given as goal

abbrev pub invariant-loop-property : goal.invariant-loop-property
invariant-loop-property l = l.found ++ flat_map (of_property (quad_of l.within.scope.now.prefixes.now l.within.scope.now.variables.now l.within.scope.now.labels.now (graph_of l.within.scope.now.prefixes.now l.within.scope.now.variables.now l.within.scope.now.labels.now l.within.with.now l.within.graph.now)) l.same.subject) (drop l.property-index l.same.properties) ≡ l.fn.found ++ of_subject (quad_of l.within.scope.now.prefixes.now l.within.scope.now.variables.now l.within.scope.now.labels.now (graph_of l.within.scope.now.prefixes.now l.within.scope.now.variables.now l.within.scope.now.labels.now l.within.with.now l.within.graph.now)) l.same
