use Rattle.std.proofs.Common.{refl}
use Rattle.incarnations.specs.Slots.{Slot, taken}
use Rattle.incarnations.specs.Kept.{plain, slot_by}
use Rattle.slots.proofs.Keeping.{view_set, kept_set, low_none, calm_open}
use Rattle.version_overlay.specs.ChangeFilter.{may_cover}
use Rattle.slots.proofs.slots.Slots.take.Goals as goal

pub invariant_of-self : goal.invariant_of-self
invariant_of-self c =
    kept_set c.self.inside.kept.slots.items c.self.inside.kept.low (may_cover c.self.inside.kept.published) c.self.inside.kept.settled c.self.invariant c.args.self.now c.self.view_is c.args.i c.requires c.index_mut.result.now c.take.new.slot c.index_mut.ensures.value
    (λ f (z : Slot). taken z c.args.n c.args.worker) c.take.ensures.by
    (low_none c.self.inside.kept.low _ c.take.ensures.notes)
    (refl) (λ h. calm_open (taken (slot_by plain c.index_mut.result.now) c.args.n c.args.worker) refl)

pub returns : goal.returns
returns c =
    view_set c.self.inside.kept.slots.items c.self.inside.kept.low (may_cover c.self.inside.kept.published) c.self.inside.kept.settled c.self.invariant c.args.self.now c.self.view_is c.args.i c.requires c.index_mut.result.now c.take.new.slot c.index_mut.ensures.value
    (λ f (z : Slot). taken z c.args.n c.args.worker) c.take.ensures.by
    (low_none c.self.inside.kept.low _ c.take.ensures.notes)
