use Rattle.std.proofs.Common.{◌≡◌, ◌++◌, drop}
use Rattle.group_translation.specs.Triples.{of_triples, pattern_of}
use Rattle.group_translation.proofs.triples.patterns_of.Given as goal

abbrev pub invariant-loop-same : goal.invariant-loop-same
invariant-loop-same l = l.found ++ of_triples (pattern_of l.scope.prefixes.now l.scope.variables.now) (drop l.same-index l.triples) ≡ of_triples (pattern_of l.scope.prefixes.now l.scope.variables.now) l.triples
