use Rattle.journal.proofs.LineLaws.{line_is_read}
use Rattle.journal.proofs.laws.lines_are_read.Goals as goal

pub returns : goal.returns
returns c = line_is_read c.runs_are_longest.ensures c.terms_are_read.ensures (λ tag t is. record { utf8 = c.terms_end_no_line.ensures.utf8 tag t is; inner = c.terms_end_no_line.ensures.inner tag t is })
