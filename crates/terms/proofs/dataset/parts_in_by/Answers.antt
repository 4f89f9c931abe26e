use Rattle.std.proofs.Common.{◌∙◌}
use Rattle.std.specs.Prelude.{map, slice_index}
use Rattle.terms.specs.Placed.{quad_of_places}
use Rattle.terms.proofs.UniteLaws.{moved_dataset, moved_within}
use Rattle.terms.proofs.dataset.parts_in_by.Goals as goal

pub returns-clause-parts : goal.returns-clause-parts
returns-clause-parts g c =
    moved_dataset c.places_of_by.new.self c.other.inside.terms c.in_ok-places.places.items c.in_ok-places.ensures.places c.other.inside.quads.items c.quads_placed_by-quads.result.items
    c.other.inside.names.items c.in_ok-names.names.items c.other.invariant.1
    (c.quads_placed_by-quads.ensures ∙ (λ i. map (quad_of_places (c.as_slice.ensures.value i)) c.other.inside.quads.items))
    (c.in_ok-names.ensures ∙ (λ i. map (slice_index (c.as_slice-2.ensures.value i)) (c.as_slice-3.ensures.value i)))
    ∙ c.other.view_is

pub returns-clause-within : goal.returns-clause-within
returns-clause-within g c =
    moved_within c.places_of_by.new.self c.other.inside.terms c.in_ok-places.places.items c.in_ok-places.ensures.places c.other.inside.quads.items c.quads_placed_by-quads.result.items
    c.other.inside.names.items c.in_ok-names.names.items c.other.invariant.1
    (c.quads_placed_by-quads.ensures ∙ (λ i. map (quad_of_places (c.as_slice.ensures.value i)) c.other.inside.quads.items))
    (c.in_ok-names.ensures ∙ (λ i. map (slice_index (c.as_slice-2.ensures.value i)) (c.as_slice-3.ensures.value i)))
