use Rattle.std.proofs.Common.{◌≡◌, sym, subst, ◌∙◌}
use Rattle.reads.specs.Reads.{says}
use Rattle.reads.specs.declared.note.Note.{Note}
use Rattle.update.proofs.KnownQuads.{told_graphs, agrees_at}
use Rattle.update.proofs.known.graphs_told.Goals as goal

pub returns-then-is_of_graphs-clause-told : goal.returns-then-is_of_graphs-clause-told
returns-then-is_of_graphs-clause-told c d a so =
    let n : Note = c.note-item.result in
    c.in_ok-names.ensures ∙ c.names_in.ensures ∙ told_graphs n.read n.answer d (sym c.is_of_graphs.ensures ∙ c.if-is_of_graphs.true)
    (subst (λ (m : Note). m.answer ≡ says m.read d) (sym c.note-item.is) (agrees_at c.args.notes.now c.loop-note.note-index n d c.loop-note-test.true a))
