use Rattle.std.proofs.Common.{Some}
use Rattle.incarnations.specs.Slots.{Slot, passed}
use Rattle.incarnations.specs.Kept.{plain, slot_by}
use Rattle.slots.proofs.Keeping.{view_set, kept_set, low_same, lows_of, calm_passed, passed-delta}
use Rattle.version_overlay.specs.ChangeFilter.{may_cover}
use Rattle.slots.proofs.slots.Slots.pass_on.Goals as goal

pub invariant_of-self : goal.invariant_of-self
invariant_of-self c =
    kept_set c.self.inside.kept.slots.items c.self.inside.kept.low (may_cover c.self.inside.kept.published) c.self.inside.kept.settled c.self.invariant c.args.self.now c.self.view_is c.args.i c.requires.still c.index_mut.result.now c.pass.new.slot c.index_mut.ensures.value
    (λ f (z : Slot). passed z (Some c.args.stands)) c.pass.ensures.by
    (low_same c.self.inside.kept.low _ _ c.pass.ensures.notes (lows_of c.self.inside.kept.slots.items c.self.inside.kept.low (may_cover c.self.inside.kept.published) c.self.inside.kept.settled c.self.invariant c.args.self.now c.self.view_is c.args.i c.requires.still c.index_mut.result.now c.pass.new.slot c.index_mut.ensures.value))
    (passed-delta (slot_by plain c.index_mut.result.now) (Some c.args.stands)) (calm_passed (slot_by plain c.index_mut.result.now) (Some c.args.stands))

pub returns : goal.returns
returns c =
    view_set c.self.inside.kept.slots.items c.self.inside.kept.low (may_cover c.self.inside.kept.published) c.self.inside.kept.settled c.self.invariant c.args.self.now c.self.view_is c.args.i c.requires.still c.index_mut.result.now c.pass.new.slot c.index_mut.ensures.value
    (λ f (z : Slot). passed z (Some c.args.stands)) c.pass.ensures.by
    (low_same c.self.inside.kept.low _ _ c.pass.ensures.notes (lows_of c.self.inside.kept.slots.items c.self.inside.kept.low (may_cover c.self.inside.kept.published) c.self.inside.kept.settled c.self.invariant c.args.self.now c.self.view_is c.args.i c.requires.still c.index_mut.result.now c.pass.new.slot c.index_mut.ensures.value))
