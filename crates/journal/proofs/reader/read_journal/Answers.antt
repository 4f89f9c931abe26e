use Rattle.journal.proofs.EntryLaws.{only_lines}
use Rattle.journal.proofs.reader.read_journal.Goals as goal

pub returns-clause-only : goal.returns-clause-only
returns-clause-only c =
    only_lines (λ v. v.items) c.read_bytes.result c.args.tag c.args.bytes.now c.one_journal.ensures.one c.one_journal.ensures.none
    c.read_bytes.ensures.lines c.read_bytes.ensures.bad c.read_bytes.ensures.legal
