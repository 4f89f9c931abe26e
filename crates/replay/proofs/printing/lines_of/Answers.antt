use Rattle.std.proofs.Common.{map, ◌∙◌}
use Rattle.std.proofs.lemmas.Result.{IfOk-weaker}
use Rattle.replay.specs.Kept.{line_of_kept}
use Rattle.replay.proofs.Printed.{same_lines}
use Rattle.replay.proofs.printing.lines_of.Goals as goal

pub returns : goal.returns
returns c =
    IfOk-weaker c.entry_lines.result _ _
    (λ lines e. e
    ∙ (λ t. map (line_of_kept (c.terms-terms.ensures t)) (c.journal-journal.ensures.journal t))
    ∙ same_lines c.args.book.now.terms c.args.book.now.history)
    c.entry_lines.ensures
