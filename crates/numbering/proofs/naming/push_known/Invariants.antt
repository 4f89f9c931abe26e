use Rattle.std.proofs.Common.{◌≡◌, ◌++◌, map, take}
use Rattle.numbering.specs.Tables.{places_of}
use Rattle.numbering.proofs.naming.push_known.Given as goal

abbrev pub invariant-loop-quad : goal.invariant-loop-quad
invariant-loop-quad l = l.list.items ≡ l.fn.list.items ++ map places_of (take l.quad-index l.quads)
