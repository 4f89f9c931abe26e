use Rattle.std.proofs.Common.{◌≡◌, ◌<◌, ℕ, length, get_or}
use Rattle.datasets.specs.declared.id.Id.{Id}
use Rattle.datasets.specs.declared.quad.Quad.{Quad}
use Rattle.quad_lists.specs.Part.{quads_of_part}
use Rattle.quad_lists.proofs.part.Part.is_same_widened.Given as goal

abbrev pub invariant-loop-place : goal.invariant-loop-place
invariant-loop-place l = record {
  long : length (quads_of_part l.self) ≡ length (quads_of_part l.other);
  alike : (d : Quad Id) (k : ℕ) → k < l.place → get_or (quads_of_part l.self) k d ≡ get_or (quads_of_part l.other) k d;
}
