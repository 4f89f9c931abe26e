use Rattle.journal.proofs.EntryLaws.{one_journal, no_journal}
use Rattle.journal.proofs.laws.one_journal.Goals as goal

pub returns-clause-one : goal.returns-clause-one
returns-clause-one c = one_journal c.entries_are_lines.ensures.again

pub returns-clause-none : goal.returns-clause-none
returns-clause-none c = no_journal c.entries_are_lines.ensures.again
