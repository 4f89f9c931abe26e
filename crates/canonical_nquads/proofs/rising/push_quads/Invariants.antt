use Rattle.std.proofs.Common.{ℕ, List, ◌++◌, map, take}
use Rattle.canonical_nquads.specs.Placed.{quad_text_at}
use Rattle.canonical_nquads.specs.Rising.{IsRising}
use Rattle.canonical_nquads.proofs.rising.push_quads.Given as goal

abbrev pub invariant-loop-quad : goal.invariant-loop-quad
invariant-loop-quad l = (lines : List (List ℕ)) → IsRising lines l.fn.made → IsRising (lines ++ map (quad_text_at l.texts) (take l.quad-index l.quads)) l.made
