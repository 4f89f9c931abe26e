use Rattle.std.proofs.Common.{◌≡◌, map, take}
use Rattle.canonical_nquads.specs.Placed.{quad_text_at}
use Rattle.canonical_nquads.proofs.canonical.quad_lines.Given as goal

abbrev pub invariant-loop-quad : goal.invariant-loop-quad
invariant-loop-quad l = l.lines.items ≡ map (quad_text_at l.texts) (take l.quad-index l.quads)
