use Rattle.std.proofs.Common.{refl, ap, ◌∙◌}
use Rattle.delta.specs.Same.{delta_eq}
use Rattle.incarnations.specs.Slots.{Slot, published}
use Rattle.slots.proofs.Keeping.{view_set, kept_published, low_same, lows_of, old_is}
use Rattle.version_overlay.specs.ChangeFilter.{may_cover}
use Rattle.slots.proofs.slots.Slots.publish.Goals as goal

pub invariant_of-self-2 : goal.invariant_of-self-2
invariant_of-self-2 c =
    kept_published c.self.inside.kept.slots.items c.self.inside.kept.low (may_cover c.self.inside.kept.published) c.self.inside.kept.settled c.self.invariant c.args.self.now c.self.view_is c.args.i c.requires.still c.index_mut.result.now c.publish.new.slot c.index_mut.ensures.value
    (λ f (z : Slot). published z c.args.n c.args.finished.now c.args.clock) c.in_ok-same.ensures.ok
    (low_same c.self.inside.kept.low _ _ c.in_ok-same.ensures.notes (lows_of c.self.inside.kept.slots.items c.self.inside.kept.low (may_cover c.self.inside.kept.published) c.self.inside.kept.settled c.self.invariant c.args.self.now c.self.view_is c.args.i c.requires.still c.index_mut.result.now c.publish.new.slot c.index_mut.ensures.value))
    (may_cover c.put.new.self) c.in_ok-put.ensures.kept c.in_ok-put.ensures.added (λ f. refl)

pub returns-clause-ok : goal.returns-clause-ok
returns-clause-ok c =
    view_set c.self.inside.kept.slots.items c.self.inside.kept.low (may_cover c.self.inside.kept.published) c.self.inside.kept.settled c.self.invariant c.args.self.now c.self.view_is c.args.i c.requires.still c.index_mut.result.now c.publish.new.slot c.index_mut.ensures.value
    (λ f (z : Slot). published z c.args.n c.args.finished.now c.args.clock) c.in_ok-same.ensures.ok
    (low_same c.self.inside.kept.low _ _ c.in_ok-same.ensures.notes (lows_of c.self.inside.kept.slots.items c.self.inside.kept.low (may_cover c.self.inside.kept.published) c.self.inside.kept.settled c.self.invariant c.args.self.now c.self.view_is c.args.i c.requires.still c.index_mut.result.now c.publish.new.slot c.index_mut.ensures.value))

pub returns-clause-same : goal.returns-clause-same
returns-clause-same c =
    c.in_ok-same.ensures.same ∙ ap (λ (z : Slot). delta_eq z.delta c.args.finished.now.delta) (old_is c.self.inside.kept.slots.items c.self.inside.kept.low (may_cover c.self.inside.kept.published) c.self.inside.kept.settled c.self.invariant c.args.self.now c.self.view_is c.args.i c.requires.still c.index_mut.result.now c.publish.new.slot c.index_mut.ensures.value)
