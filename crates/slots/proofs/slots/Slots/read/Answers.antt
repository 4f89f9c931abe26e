use Rattle.std.proofs.Common.{◌∙◌, ◌++◌, ◌∷◌, [], slice_set, refl, ap, subst, arith}
use Rattle.version_overlay.specs.ChangeFilter.{may_cover}
use Rattle.incarnations.specs.declared.state.Slot.{Slot as KeptSlot}
use Rattle.incarnations.specs.Slots.{Noted, Slot, with_note}
use Rattle.validate.specs.Below.{slot_at}
use Rattle.validate.specs.Kept.{IsFound}
use Rattle.slots.proofs.Keeping.{from_low, in_block, blocker_is, now_is, view_set, kept_set, kept_again, noted_by, low_same, low_append, lows_of}
use Rattle.slots.proofs.slots.Slots.read.Goals as goal

pub look-requires-clause-above : goal.look-requires-clause-above
look-requires-clause-above c = from_low c.self.inside.kept.slots.items c.self.inside.kept.low (may_cover c.self.inside.kept.published) c.self.inside.kept.settled c.self.invariant c.args.self.now c.self.view_is c.args.i c.requires.still

pub index_mut-requires : goal.index_mut-requires
index_mut-requires c =
    let lt = in_block c.self.inside.kept.slots.items c.self.inside.kept.low (may_cover c.self.inside.kept.published) c.self.inside.kept.settled c.self.invariant c.args.self.now c.self.view_is c.args.i c.requires.still in
    let long = c.self.inside.kept.slots.ok in
    omega (arith, lt, long)

pub invariant_of-self : goal.invariant_of-self
invariant_of-self c = kept_again c.self.inside.kept.slots.items c.self.inside.kept.low (may_cover c.self.inside.kept.published) c.self.inside.kept.settled c.self.invariant c.args.self.now c.self.view_is c.args.i c.requires.still c.index_mut.result.now c.note.new.slot c.index_mut.ensures.value c.in_err-note.ensures.err

pub returns-in-Blocked-clause-ok : goal.returns-in-Blocked-clause-ok
returns-in-Blocked-clause-ok c = (
  blocker_is c.self.inside.kept.slots.items c.self.inside.kept.low (may_cover c.self.inside.kept.published) c.self.inside.kept.settled c.self.invariant c.args.self.now c.self.view_is c.args.i c.requires.still c.args.scanned.now.read ∙ subst (IsFound c.args.scanned.now.dataset c.self.inside.kept.slots.items c.self.inside.kept.low c.args.i c.args.scanned.now.read) c.in-Blocked.is c.in_ok-j.ensures,
  refl,
)

pub invariant_of-self-2 : goal.invariant_of-self-2
invariant_of-self-2 c =
    let found = subst (IsFound c.args.scanned.now.dataset c.self.inside.kept.slots.items c.self.inside.kept.low c.args.i c.args.scanned.now.read) c.in-Noted.is c.in_ok-j.ensures in
    kept_set c.self.inside.kept.slots.items c.self.inside.kept.low (may_cover c.self.inside.kept.published) c.self.inside.kept.settled c.self.invariant c.args.self.now c.self.view_is c.args.i c.requires.still c.index_mut.result.now c.note.new.slot c.index_mut.ensures.value
    (λ f (z : Slot). with_note z (f c.in-Noted.noted)) (noted_by c.note.new.slot c.index_mut.result.now c.in-Noted.noted c.in_ok-note.ensures.ok)
    (low_same c.self.inside.kept.low c.note.new.slot.notes (c.index_mut.result.now.notes ++ c.in-Noted.noted ∷ []) (ap (λ (z : KeptSlot). z.notes) c.in_ok-note.ensures.ok)
    (low_append c.self.inside.kept.low c.index_mut.result.now.notes c.in-Noted.noted (lows_of c.self.inside.kept.slots.items c.self.inside.kept.low (may_cover c.self.inside.kept.published) c.self.inside.kept.settled c.self.invariant c.args.self.now c.self.view_is c.args.i c.requires.still c.index_mut.result.now c.note.new.slot c.index_mut.ensures.value)
    (let e = found.1.0 in omega (arith, e)))) refl (λ h. h)

pub returns-clause-ok : goal.returns-clause-ok
returns-clause-ok c =
    let found = subst (IsFound c.args.scanned.now.dataset c.self.inside.kept.slots.items c.self.inside.kept.low c.args.i c.args.scanned.now.read) c.in-Noted.is c.in_ok-j.ensures in
    let now = found.1.1.0 ∙ now_is c.self.inside.kept.slots.items c.self.inside.kept.low (may_cover c.self.inside.kept.published) c.self.inside.kept.settled c.self.invariant c.args.self.now c.self.view_is c.args.i c.requires.still c.args.scanned.now.dataset c.args.scanned.now.read in (
      (blocker_is c.self.inside.kept.slots.items c.self.inside.kept.low (may_cover c.self.inside.kept.published) c.self.inside.kept.settled c.self.invariant c.args.self.now c.self.view_is c.args.i c.requires.still c.args.scanned.now.read ∙ found.0, found.1.1.1 ∙ ap (λ (n : Noted). n.answer) now),
      view_set c.self.inside.kept.slots.items c.self.inside.kept.low (may_cover c.self.inside.kept.published) c.self.inside.kept.settled c.self.invariant c.args.self.now c.self.view_is c.args.i c.requires.still c.index_mut.result.now c.note.new.slot c.index_mut.ensures.value
          (λ f (z : Slot). with_note z (f c.in-Noted.noted)) (noted_by c.note.new.slot c.index_mut.result.now c.in-Noted.noted c.in_ok-note.ensures.ok)
          (low_same c.self.inside.kept.low c.note.new.slot.notes (c.index_mut.result.now.notes ++ c.in-Noted.noted ∷ []) (ap (λ (z : KeptSlot). z.notes) c.in_ok-note.ensures.ok)
          (low_append c.self.inside.kept.low c.index_mut.result.now.notes c.in-Noted.noted (lows_of c.self.inside.kept.slots.items c.self.inside.kept.low (may_cover c.self.inside.kept.published) c.self.inside.kept.settled c.self.invariant c.args.self.now c.self.view_is c.args.i c.requires.still c.index_mut.result.now c.note.new.slot c.index_mut.ensures.value)
          (let e = found.1.0 in omega (arith, e))))
          ∙ ap (λ (n : Noted). slice_set c.args.self.now c.args.i (with_note (slot_at c.args.self.now c.args.i) n)) now,
    )
