use Rattle.std.proofs.Common.{◌≡◌, ◌++◌, drop}
use Rattle.std.specs.List.{flat_map}
use Rattle.group_translation.specs.Triples.{of_property, of_subject, pattern_of}
use Rattle.group_translation.proofs.triples.add_subject_patterns.Given as goal

abbrev pub invariant-loop-property : goal.invariant-loop-property
invariant-loop-property l = l.found ++ flat_map (of_property (pattern_of l.scope.prefixes.now l.scope.variables.now) l.same.subject) (drop l.property-index l.same.properties) ≡ l.fn.found ++ of_subject (pattern_of l.scope.prefixes.now l.scope.variables.now) l.same
