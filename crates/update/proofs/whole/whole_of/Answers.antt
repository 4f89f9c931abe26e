use Rattle.std.proofs.Common.{ap, ◌∙◌, filter_map}
use Rattle.std.specs.List.{list_any}
use Rattle.reads.proofs.Rising.{rises-sets}
use Rattle.sets.specs.Sets.{set_of}
use Rattle.datasets.specs.Id.{id_order}
use Rattle.datasets.specs.Dataset.{quad_order}
use Rattle.update.specs.Whole.{is_any, is_default, name_at}
use Rattle.update.proofs.WholeGraphs.{known_of_notes}
use Rattle.update.proofs.FreeScans.{all_places}
use Rattle.update.proofs.whole.whole_of.Goals as goal

pub invariant_of-result : goal.invariant_of-result
invariant_of-result c = rises-sets _ _ c.in_ok-quads.quads.items c.in_ok-names.names.items c.set_of-2.ensures c.set_of.ensures

pub returns-clause-knows : goal.returns-clause-knows
returns-clause-knows c d a =
    let places = c.in_ok-places.ensures in
    known_of_notes (record { is_all = c.has_any.result; has_default = c.has_default.result; names = c.set_of.result.items; quads = c.set_of-2.result.items }) c.args.notes.now
    (c.has_any.ensures ∙ ap (list_any is_any) (c.deref-2.ensures.value ∙ places))
    (c.has_default.ensures ∙ ap (list_any is_default) (c.deref-3.ensures.value ∙ places))
    (c.set_of.ensures ∙ ap (set_of id_order) (c.in_ok-names.ensures ∙ ap (filter_map name_at) (c.deref.ensures.value ∙ places)))
    (c.set_of-2.ensures ∙ ap (set_of (quad_order id_order)) c.in_ok-quads.ensures)
    d a

pub returns-clause-all : goal.returns-clause-all
returns-clause-all c e = c.has_any.ensures ∙ ap (list_any is_any) (c.deref-2.ensures.value ∙ c.in_ok-places.ensures) ∙ all_places c.args.notes.now e
