use Rattle.std.proofs.Common.{◌<◌, ℕ, get_or}
use Rattle.datasets.specs.declared.id.Id.{Id}
use Rattle.datasets.specs.declared.quad.Quad.{Quad}
use Rattle.delta.specs.GraphSpan.{IsWithin}
use Rattle.delta.proofs.graph_span.GraphSpan.with_all.Given as goal

abbrev pub invariant-loop-place : goal.invariant-loop-place
invariant-loop-place l = record {
  here : (i : ℕ) (d : Quad Id) → i < l.place → IsWithin l.span (get_or l.quads i d);
  kept : (q : Quad Id) → IsWithin l.fn.self q → IsWithin l.span q;
}
