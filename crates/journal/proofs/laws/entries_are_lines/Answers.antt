use Rattle.journal.proofs.EntryLaws.{entry_found, entry_again}
use Rattle.journal.proofs.laws.entries_are_lines.Goals as goal

pub returns-clause-found : goal.returns-clause-found
returns-clause-found c = entry_found c.runs_are_longest.ensures

pub returns-clause-again : goal.returns-clause-again
returns-clause-again c =
    entry_again c.runs_are_longest.ensures (λ tag t is. record { utf8 = c.terms_end_no_line.ensures.utf8 tag t is; inner = c.terms_end_no_line.ensures.inner tag t is }) c.lines_are_read.ensures
