use Rattle.std.proofs.Common.{◌≡◌, ◌++◌, drop, map}
use Rattle.group_translation.specs.Triples.{of_property, pattern_of}
use Rattle.group_translation.proofs.triples.add_property_patterns.Given as goal

abbrev pub invariant-loop-object : goal.invariant-loop-object
invariant-loop-object l = l.found ++ map (pattern_of l.scope.prefixes.now l.scope.variables.now l.subject l.property.verb) (drop l.object-index l.property.objects)
    ≡ l.fn.found ++ of_property (pattern_of l.scope.prefixes.now l.scope.variables.now) l.subject l.property
