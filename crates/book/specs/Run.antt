-- What a book is seen as, and what it keeps.
use Rattle.std.specs.Prelude.{◌≡◌, ℕ, true, List, length, map, Option, Some, None, slice_get}
use Rattle.std.specs.List.{list_all}
use Rattle.terms.specs.declared.term.Term.{Term}
use Rattle.datasets.specs.declared.id.Id.{Id}
use Rattle.dict.specs.Dictionary.{IsDictionary, is_known, numbers}
use Rattle.meaning.specs.Vocabulary.{Vocabulary}
use Rattle.meaning.specs.Run.{Request, answer_of, run_of_first}
use Rattle.meaning.specs.declared.reply.Reply as request
use Rattle.meaning.specs.declared.reply.Reply.TheVariants.{Done}
use Rattle.meaning_laws.specs.Renaming.{request_known}
use Rattle.reads.specs.Reads.{View}
use Rattle.delta.specs.Sound.{IsDatasetOf, IsSoundFor}
use Rattle.incarnations.specs.declared.state.Event.{Event}
use Rattle.incarnations.specs.declared.state.Event.TheVariants.{Publish}
use Rattle.incarnations.specs.declared.state.Reply.{Reply}
use Rattle.incarnations.specs.declared.state.Reply.TheVariants.{Published}
use Rattle.incarnations.specs.declared.state.Entry.{Entry}
use Rattle.block_machine.specs.Machine.{State, fresh, state_after}
use Rattle.block_machine.specs.Serial.{Setting, IsHistory}
use Rattle.book.specs.declared.journal_entry.JournalEntry.{JournalEntry}
use Rattle.book.specs.JournalEntry.{journal_entry_of, history_from}

-- the terms that are numbered, a base, a block, and the events that were answered so far
pub record Run : Type 0 where
  pub terms : List Term
  pub base : View
  pub block : List (Request Id)
  pub history : List Entry

-- the answer to the request at a place of a block; past its end nothing happens
abbrev pub answer_at : Vocabulary Id → ℕ → Option (Request Id) → View → View × request.Reply
answer_at V i (Some r) d = answer_of V i r d
answer_at V i None d = (d, Done 0 0)

-- what the machine runs
unfoldable pub setting : List Term → View → List (Request Id) → Setting
setting terms base block =
    record {
      known = is_known terms;
      base = base;
      size = length block;
      answer = λ i d. answer_at (numbers terms) i (slice_get block i) d;
    }

abbrev pub setting_of : Run → Setting
setting_of run = setting run.terms run.base run.block

-- where the journal leaves the machine
abbrev pub state_of : Run → State
state_of run = state_after (fresh (length run.block)) run.history

-- the sequential run of as many first requests as are committed
abbrev pub front_run : Run → View × List request.Reply
front_run run = run_of_first (numbers run.terms) (state_of run).front run.block run.base

-- the run that a journal stands for
abbrev pub run_of_journal : List Term → View → List (Request Id) → List JournalEntry → Run
run_of_journal terms base block journal =
    record { terms = terms; base = base; block = block; history = history_from base (fresh (length block)) journal }

-- the callers' condition: the base is a dataset, and the dictionary has all terms of it and of the
-- block
pub record HasAllTerms (terms : List Term) (base : View) (block : List (Request Id)) : Type 0 where
  pub dataset : IsDatasetOf (is_known terms) base
  pub requests : list_all (request_known (is_known terms)) block ≡ true

-- the dictionary is one, and has the terms of the run; the journal is what is kept of a history, and
-- the machine is where that leads
pub record IsReplayed (run : Run) (journal : List JournalEntry) (machine : State) : Type 0 where
  pub dictionary : IsDictionary run.terms
  pub has_all_terms : HasAllTerms run.terms run.base run.block
  pub lawful : IsHistory (setting_of run) run.history
  pub kept : map journal_entry_of run.history ≡ journal
  pub state : machine ≡ state_of run

-- a run that is published is kept; another is not
abbrev pub kept : Event → Reply → Event
kept (Publish i n finished) Published = Publish i n finished
kept (Publish i n finished) reply = Publish i n None
kept event reply = event

-- the callers' condition: a finished run is sound for the block's request
abbrev pub IsSoundEvent : Run → Event → Type 0
IsSoundEvent run (Publish i n (Some finished)) =
    (r : Request Id) → slice_get run.block i ≡ Some r
    → IsSoundFor (is_known run.terms) (answer_of (numbers run.terms) i r) finished
IsSoundEvent run event = Unit {0}
