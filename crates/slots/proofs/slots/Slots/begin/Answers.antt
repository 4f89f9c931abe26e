use Rattle.incarnations.specs.Slots.{Slot, begun}
use Rattle.incarnations.specs.Kept.{plain, slot_by}
use Rattle.slots.proofs.Keeping.{view_set, kept_set, low_same, lows_of, calm_begun, begun-delta}
use Rattle.version_overlay.specs.ChangeFilter.{may_cover}
use Rattle.slots.proofs.slots.Slots.begin.Goals as goal

pub invariant_of-self : goal.invariant_of-self
invariant_of-self c =
    kept_set c.self.inside.kept.slots.items c.self.inside.kept.low (may_cover c.self.inside.kept.published) c.self.inside.kept.settled c.self.invariant c.args.self.now c.self.view_is c.args.i c.requires c.index_mut.result.now c.begin.new.slot c.index_mut.ensures.value
    (λ f (z : Slot). begun z z.notes c.args.clock) c.begin.ensures.by
    (low_same c.self.inside.kept.low _ _ c.begin.ensures.notes (lows_of c.self.inside.kept.slots.items c.self.inside.kept.low (may_cover c.self.inside.kept.published) c.self.inside.kept.settled c.self.invariant c.args.self.now c.self.view_is c.args.i c.requires c.index_mut.result.now c.begin.new.slot c.index_mut.ensures.value))
    (begun-delta (slot_by plain c.index_mut.result.now) (slot_by plain c.index_mut.result.now).notes c.args.clock) (calm_begun (slot_by plain c.index_mut.result.now) (slot_by plain c.index_mut.result.now).notes c.args.clock)

pub returns : goal.returns
returns c =
    view_set c.self.inside.kept.slots.items c.self.inside.kept.low (may_cover c.self.inside.kept.published) c.self.inside.kept.settled c.self.invariant c.args.self.now c.self.view_is c.args.i c.requires c.index_mut.result.now c.begin.new.slot c.index_mut.ensures.value
    (λ f (z : Slot). begun z z.notes c.args.clock) c.begin.ensures.by
    (low_same c.self.inside.kept.low _ _ c.begin.ensures.notes (lows_of c.self.inside.kept.slots.items c.self.inside.kept.low (may_cover c.self.inside.kept.published) c.self.inside.kept.settled c.self.invariant c.args.self.now c.self.view_is c.args.i c.requires c.index_mut.result.now c.begin.new.slot c.index_mut.ensures.value))
