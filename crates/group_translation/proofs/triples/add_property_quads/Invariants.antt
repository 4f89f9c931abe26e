use Rattle.std.proofs.Common.{◌≡◌, ◌++◌, drop, map}
use Rattle.group_translation.specs.Triples.{of_property, graph_of, quad_of}
use Rattle.group_translation.proofs.triples.add_property_quads.Given as goal

abbrev pub invariant-loop-object : goal.invariant-loop-object
invariant-loop-object l = l.found ++ map (quad_of l.within.scope.now.prefixes.now l.within.scope.now.variables.now l.within.scope.now.labels.now (graph_of l.within.scope.now.prefixes.now l.within.scope.now.variables.now l.within.scope.now.labels.now l.within.with.now l.within.graph.now) l.subject l.property.verb) (drop l.object-index l.property.objects)
    ≡ l.fn.found ++ of_property (quad_of l.within.scope.now.prefixes.now l.within.scope.now.variables.now l.within.scope.now.labels.now (graph_of l.within.scope.now.prefixes.now l.within.scope.now.variables.now l.within.scope.now.labels.now l.within.with.now l.within.graph.now)) l.subject l.property
