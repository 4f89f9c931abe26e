use Rattle.std.proofs.Common.{◌≡◌, ◌++◌, take}
use Rattle.std.specs.List.{flat_map}
use Rattle.rules.specs.Terms.{terms_of_quad}
use Rattle.rules.proofs.block_terms.add_quads.Given as goal

abbrev pub invariant-loop-quad : goal.invariant-loop-quad
invariant-loop-quad l = l.found.items ≡ l.fn.found.items ++ flat_map terms_of_quad (take l.quad-index l.quads)
