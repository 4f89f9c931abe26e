use Rattle.std.proofs.Common.{◌++◌, ap, ◌∙◌}
use Rattle.std.specs.Prelude.{option_to_list}
use Rattle.update.proofs.WholeGraphs.{placed_more}
use Rattle.update.proofs.whole.places_told.Goals as goal

pub loop-note-preserved : goal.loop-note-preserved
loop-note-preserved c =
    placed_more c.args.notes.now c.loop-note.note-index c.note-item.result c.loop-note.places.items _ c.loop-note-test.true c.note-item.is
    (c.in_ok-push_place.ensures ∙ ap (λ o. c.loop-note.places.items ++ option_to_list o) c.whole_place.ensures)
    c.loop-note.invariant
