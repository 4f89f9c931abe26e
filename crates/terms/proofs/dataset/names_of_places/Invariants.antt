use Rattle.std.proofs.Common.{◌≡◌, map, slice_index, take}
use Rattle.terms.proofs.dataset.names_of_places.Given as goal

abbrev pub invariant-loop-name : goal.invariant-loop-name
invariant-loop-name l = l.placed.items ≡ map (slice_index l.places) (take l.name-index l.names)
