use Rattle.std.proofs.Common.{◌≡◌, take}
use Rattle.std.specs.List.{flat_map}
use Rattle.canonical_nquads.specs.Canonical.{ended}
use Rattle.canonical_nquads.proofs.canonical.joined.Given as goal

abbrev pub invariant-loop-line : goal.invariant-loop-line
invariant-loop-line l = l.text.items ≡ flat_map ended (take l.line-index l.lines)
