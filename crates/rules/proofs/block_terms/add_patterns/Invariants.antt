use Rattle.std.proofs.Common.{◌≡◌, ◌++◌, take}
use Rattle.std.specs.List.{flat_map}
use Rattle.rules.specs.Terms.{terms_of_pattern}
use Rattle.rules.proofs.block_terms.add_patterns.Given as goal

abbrev pub invariant-loop-pattern : goal.invariant-loop-pattern
invariant-loop-pattern l = l.found.items ≡ l.fn.found.items ++ flat_map terms_of_pattern (take l.pattern-index l.patterns)
