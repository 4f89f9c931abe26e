use Rattle.std.proofs.Common.{◌≡◌}
use Rattle.std.specs.Vec.Iter.{into_iter_items}
use Rattle.dataset_builder.specs.Builder.{with_quads}
use Rattle.dataset_builder.proofs.builder.add_all.Given as goal

abbrev pub invariant-loop-quad : goal.invariant-loop-quad
invariant-loop-quad l =
    (goal.iterator-loop-quad).can_next l.quad-iterator × (goal.iterator-loop-quad).is_finite l.quad-iterator
    × (with_quads l.placed (into_iter_items l.quad-iterator) ≡ with_quads l.fn.placed l.fn.quads.items)
