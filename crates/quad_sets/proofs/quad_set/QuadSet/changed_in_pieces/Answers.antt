use Rattle.std.proofs.Common.{◌∙◌}
use Rattle.std.proofs.lemmas.Result.{IfOk-weaker}
use Rattle.sets.specs.Sets.{union, without}
use Rattle.datasets.specs.Id.{id_order}
use Rattle.datasets.specs.Dataset.{quad_order}
use Rattle.quad_lists.specs.Known.{quad_of}
use Rattle.quad_lists.proofs.Mapped.{sorted-unmap}
use Rattle.quad_sets.proofs.MappedSets.{map-changed}
use Rattle.quad_sets.proofs.quad_set.QuadSet.changed_in_pieces.Goals as goal

pub changed_in_pieces-requires-clause-set : goal.changed_in_pieces-requires-clause-set
changed_in_pieces-requires-clause-set g c κs within = sorted-unmap quad_of (quad_order id_order) c.in-Narrow-Narrow-Narrow.known.now c.in-Narrow-Narrow-Narrow.ensures.set

pub changed_in_pieces-requires-clause-gone : goal.changed_in_pieces-requires-clause-gone
changed_in_pieces-requires-clause-gone g c κs within = sorted-unmap quad_of (quad_order id_order) c.in-Narrow-Narrow-Narrow.going.now c.in-Narrow-Narrow-Narrow.ensures'.set

pub changed_in_pieces-requires-clause-more : goal.changed_in_pieces-requires-clause-more
changed_in_pieces-requires-clause-more g c κs within = sorted-unmap quad_of (quad_order id_order) c.in-Narrow-Narrow-Narrow.coming.now c.in-Narrow-Narrow-Narrow.ensures''.set

pub returns-in-Narrow-Narrow-Narrow : goal.returns-in-Narrow-Narrow-Narrow
returns-in-Narrow-Narrow-Narrow g c =
    let w = c.in-Narrow-Narrow-Narrow in
    let R = quad_order id_order in
    IfOk-weaker c.changed_in_pieces.result _ _
    (λ pieces h. h ∙ map-changed quad_of R w.known.now w.going.now w.coming.now
    ∙ (λ i. union R (without R (w.ensures.value i) (w.ensures'.value i)) (w.ensures''.value i)))
    c.changed_in_pieces.ensures
