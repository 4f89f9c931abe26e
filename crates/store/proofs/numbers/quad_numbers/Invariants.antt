use Rattle.std.proofs.Common.{◌≡◌, map, take}
use Rattle.store.specs.Tables.{numbers_at}
use Rattle.store.proofs.numbers.quad_numbers.Given as goal

abbrev pub invariant-loop-quad : goal.invariant-loop-quad
invariant-loop-quad l = l.list ≡ map (numbers_at l.ids) (take l.quad-index l.quads)
