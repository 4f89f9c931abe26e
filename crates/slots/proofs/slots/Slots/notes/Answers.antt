use Rattle.std.proofs.Common.{◌∙◌, ap, map, arith}
use Rattle.incarnations.specs.declared.state.Slot.{Slot as KeptSlot}
use Rattle.incarnations.specs.Kept.{kept_note_of}
use Rattle.slots.proofs.Keeping.{notes_are}
use Rattle.slots.proofs.slots.Slots.notes.Goals as goal

pub returns-then-i-len : goal.returns-then-i-len
returns-then-i-len c =
    let lt = c.if-i-len.true in
    let long = c.len.ensures in
    ap (map kept_note_of) c.as_slice.ensures
    ∙ ap (λ (z : KeptSlot). map kept_note_of z.notes) c.index.ensures
    ∙ notes_are c.self.inside.kept.slots.items c.args.self.now c.self.view_is c.args.i c.index.result.now (omega (arith, lt, long))
