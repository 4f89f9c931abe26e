use Rattle.std.proofs.Common.{◌≡◌, map, take}
use Rattle.store.specs.Tables.{number_at}
use Rattle.store.proofs.numbers.name_numbers.Given as goal

abbrev pub invariant-loop-place : goal.invariant-loop-place
invariant-loop-place l = l.list.items ≡ map (number_at l.ids) (take l.place-index l.names)
