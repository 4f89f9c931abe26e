use Rattle.std.specs.Prelude.{not, filter}
use Rattle.std.proofs.Common.{◌≡◌}
use Rattle.solution.specs.Lookups.{binds}
use Rattle.solution.proofs.lookup.parted.Given as goal

abbrev pub invariant-loop-mapping : goal.invariant-loop-mapping
invariant-loop-mapping l = (l.bound.items ≡ filter (binds l.variables) l.yielded) × (l.loose.items ≡ filter (λ m. not (binds l.variables m)) l.yielded)
