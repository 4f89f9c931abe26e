-- What a book's journal keeps as lines.
use Rattle.std.specs.Prelude.{List}
use Rattle.terms.specs.declared.term.Term.{Term}
use Rattle.dict.specs.Dictionary.{term_of}
use Rattle.book.specs.declared.journal_entry.Kept.{Kept}
use Rattle.book.specs.declared.journal_entry.Kept.TheVariants as kept
use Rattle.book.specs.declared.journal_entry.JournalEntry.{JournalEntry}
use Rattle.journal.specs.declared.lines.Line.{Line}
use Rattle.journal.specs.declared.lines.Event as told_event
use Rattle.journal.specs.declared.lines.Event.TheVariants.{Read, Publish}
use Rattle.journal.specs.declared.lines.Reply as told_reply
use Rattle.journal.specs.declared.lines.Reply.TheVariants.{Answered, Published}
use Rattle.replay.specs.Lines.{renamed_read, line_event, line_reply}

abbrev pub event_of_kept : List Term → Kept → told_event.Event
event_of_kept terms (kept.Answered i n read count) = Read i n (renamed_read (term_of terms) read)
event_of_kept terms (kept.Published i n delta reply) = Publish i n
event_of_kept terms (kept.Other event reply) = line_event terms event

abbrev pub reply_of_kept : Kept → told_reply.Reply
reply_of_kept (kept.Answered i n read count) = Answered count
reply_of_kept (kept.Published i n delta reply) = Published
reply_of_kept (kept.Other event reply) = line_reply reply

abbrev pub line_of_kept : List Term → JournalEntry → Line
line_of_kept terms e = record { worker = e.worker; event = event_of_kept terms e.kept; reply = reply_of_kept e.kept }
