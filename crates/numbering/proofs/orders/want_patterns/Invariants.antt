use Rattle.std.proofs.Common.{◌≡◌, take}
use Rattle.std.specs.List.{fold}
use Rattle.numbering.specs.Wanted.{with_pattern}
use Rattle.numbering.proofs.orders.want_patterns.Given as goal

abbrev pub invariant-loop-pattern : goal.invariant-loop-pattern
invariant-loop-pattern l = l.wanted ≡ fold with_pattern l.fn.wanted (take l.pattern-index l.patterns)
