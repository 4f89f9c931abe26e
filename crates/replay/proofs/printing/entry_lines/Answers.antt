use Rattle.std.proofs.Common.{[], ◌∷◌, ◌++◌, ◌∙◌}
use Rattle.replay.specs.Kept.{line_of_kept}
use Rattle.replay.proofs.Printed.{map_next}
use Rattle.replay.proofs.printing.entry_lines.Goals as goal

pub loop-place-preserved : goal.loop-place-preserved
loop-place-preserved c =
    c.in_ok-push.ensures.items
    ∙ (λ t. c.loop-place.lines.items ++ c.in_ok-line_of.ensures t ∷ [])
    ∙ map_next (line_of_kept c.args.terms.now) c.loop-place.lines.items c.args.journal.now.entries c.loop-place.place c.entry.result.now c.loop-place.invariant c.entry.ensures
