use Rattle.std.proofs.Common.{◌≡◌, map, take}
use Rattle.terms.specs.Placed.{quad_of_places}
use Rattle.terms.proofs.dataset.quads_of_places.Given as goal

abbrev pub invariant-loop-quad : goal.invariant-loop-quad
invariant-loop-quad l = l.placed.items ≡ map (quad_of_places l.places) (take l.quad-index l.quads)
