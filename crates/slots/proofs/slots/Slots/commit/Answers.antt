use Rattle.std.proofs.Common.{refl}
use Rattle.incarnations.specs.Slots.{Slot, committed}
use Rattle.incarnations.specs.Kept.{plain, slot_by}
use Rattle.slots.proofs.Keeping.{view_set, kept_set, low_same, lows_of, calm_committed, committed-delta}
use Rattle.version_overlay.specs.ChangeFilter.{may_cover}
use Rattle.slots.proofs.slots.Slots.commit.Goals as goal

pub invariant_of-self : goal.invariant_of-self
invariant_of-self c =
    kept_set c.self.inside.kept.slots.items c.self.inside.kept.low (may_cover c.self.inside.kept.published) c.self.inside.kept.settled c.self.invariant c.args.self.now c.self.view_is c.args.i c.requires c.index_mut.result.now c.commit.new.slot c.index_mut.ensures.value
    (λ f (z : Slot). committed z z.status) c.commit.ensures.by
    (low_same c.self.inside.kept.low _ _ c.commit.ensures.notes (lows_of c.self.inside.kept.slots.items c.self.inside.kept.low (may_cover c.self.inside.kept.published) c.self.inside.kept.settled c.self.invariant c.args.self.now c.self.view_is c.args.i c.requires c.index_mut.result.now c.commit.new.slot c.index_mut.ensures.value))
    (committed-delta (slot_by plain c.index_mut.result.now) (slot_by plain c.index_mut.result.now).status) (calm_committed (slot_by plain c.index_mut.result.now) (slot_by plain c.index_mut.result.now).status refl)

pub returns : goal.returns
returns c =
    view_set c.self.inside.kept.slots.items c.self.inside.kept.low (may_cover c.self.inside.kept.published) c.self.inside.kept.settled c.self.invariant c.args.self.now c.self.view_is c.args.i c.requires c.index_mut.result.now c.commit.new.slot c.index_mut.ensures.value
    (λ f (z : Slot). committed z z.status) c.commit.ensures.by
    (low_same c.self.inside.kept.low _ _ c.commit.ensures.notes (lows_of c.self.inside.kept.slots.items c.self.inside.kept.low (may_cover c.self.inside.kept.published) c.self.inside.kept.settled c.self.invariant c.args.self.now c.self.view_is c.args.i c.requires c.index_mut.result.now c.commit.new.slot c.index_mut.ensures.value))
