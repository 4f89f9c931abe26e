use Rattle.std.proofs.Common.{◌≡◌, ◌++◌, map, take}
use Rattle.quad_lists.specs.Known.{quad_of}
use Rattle.quad_sets.proofs.quad_slice.push_widened.Given as goal

abbrev pub invariant-loop-entry : goal.invariant-loop-entry
invariant-loop-entry l = l.quads.items ≡ l.fn.quads.items ++ map quad_of (take l.entry-index l.known)
