use Rattle.std.proofs.Common.{◌++◌, ap, ◌∙◌}
use Rattle.reads.specs.declared.note.Note.{Note}
use Rattle.update.specs.Whole.{quads_told}
use Rattle.update.proofs.Members.{listed_more}
use Rattle.update.proofs.whole.all_told.Goals as goal

pub loop-note-preserved : goal.loop-note-preserved
loop-note-preserved c =
    listed_more (λ (n : Note). quads_told n.read n.answer) c.args.notes.now c.loop-note.note-index c.note-item.result c.loop-note.quads.items _ _ c.loop-note-test.true c.note-item.is
    (c.in_ok-quads.ensures ∙ ap (λ z. c.loop-note.quads.items ++ z) c.in_ok-more.ensures)
    c.loop-note.invariant
