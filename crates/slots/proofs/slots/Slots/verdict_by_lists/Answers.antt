use Rattle.std.proofs.Common.{◌∙◌, ap, slice_index_or}
use Rattle.std.proofs.lemmas.Result.{IfOk-weaker}
use Rattle.version_overlay.specs.ChangeFilter.{may_cover}
use Rattle.incarnations.specs.declared.state.Slot.{Slot}
use Rattle.slots.proofs.Keeping.{from_low, index_low, note_of_index, list_verdict}
use Rattle.slots.proofs.slots.Slots.verdict_by_lists.Goals as goal

pub check_list-requires-clause-above : goal.check_list-requires-clause-above
check_list-requires-clause-above c = from_low c.self.inside.kept.slots.items c.self.inside.kept.low (may_cover c.self.inside.kept.published) c.self.inside.kept.settled c.self.invariant c.args.self.now c.self.view_is c.args.i c.requires.still

pub check_list-requires-clause-low : goal.check_list-requires-clause-low
check_list-requires-clause-low c =
    index_low c.self.inside.kept.slots.items c.self.inside.kept.low (may_cover c.self.inside.kept.published) c.self.inside.kept.settled c.self.invariant c.args.self.now c.self.view_is c.args.i c.requires.still c.index.result.now c.index.ensures c.as_slice.result.now c.as_slice.ensures c.args.at c.index-as_slice-at.result c.index-as_slice-at.is c.requires.note

pub returns : goal.returns
returns c =
    IfOk-weaker c.check_list.result _ _
    (λ v h note e.
    list_verdict c.self.inside.kept.slots.items c.self.inside.kept.low (may_cover c.self.inside.kept.published) c.self.inside.kept.settled c.self.invariant c.args.self.now c.self.view_is c.args.i c.requires.still c.index-as_slice-at.result note
    (note_of_index c.self.inside.kept.slots.items c.self.inside.kept.low (may_cover c.self.inside.kept.published) c.self.inside.kept.settled c.self.invariant c.args.self.now c.self.view_is c.args.i c.requires.still c.index.result.now c.args.at c.index-as_slice-at.result note
    (c.index-as_slice-at.is ∙ ap (λ ns. slice_index_or ns c.args.at c.index-as_slice-at.result) (c.as_slice.ensures ∙ ap (λ (z : Slot). z.notes) c.index.ensures)) e) v h)
    c.check_list.ensures
