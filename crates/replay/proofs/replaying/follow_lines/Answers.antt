use Rattle.std.proofs.Common.{◌+◌, ◌∙◌, length, ap}
use Rattle.std.proofs.lemmas.List.{length-map}
use Rattle.book.specs.JournalEntry.{journal_entry_of}
use Rattle.replay.proofs.Going.{stops}
use Rattle.replay.proofs.replaying.follow_lines.Goals as goal

pub returns-then-not-branch-clause-fault : goal.returns-then-not-branch-clause-fault
returns-then-not-branch-clause-fault c =
    stops c.args.book.now.terms c.args.book.now.base c.args.book.now.block c.args.lines.now c.loop-line.book c.loop-line.line-index c.line-item.result _ c.loop-line.invariant c.loop-line-test.true c.line-item.is
    (ap (λ n. n + 1) c.len.ensures.len ∙ ap (λ es. length es + 1) c.journal.ensures.journal ∙ ap (λ n. n + 1) (length-map c.loop-line.book.history journal_entry_of)) c.journal.ensures.lawful (c.in_ok-follow_line.ensures.no c.if-not-branch.true)
