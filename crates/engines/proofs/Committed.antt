-- What a book comes to, and its journal.
use Rattle.std.proofs.Common.{◌≡◌, ℕ, List, map, refl, sym, ap, ◌∙◌, subst}
use Rattle.datasets.specs.Dataset.{Dataset}
use Rattle.datasets.specs.declared.id.Id.{Id}
use Rattle.terms.specs.declared.term.Term.{Term}
use Rattle.dict.specs.Dictionary.{numbers}
use Rattle.meaning.specs.Run.{Request, run_of_first}
use Rattle.delta.specs.declared.finished.Outcome.{Outcome}
use Rattle.store.specs.Base.{Base}
use Rattle.block_machine.specs.Serial.{IsHistory}
use Rattle.book.specs.Run.{Run, setting_of, state_of, front_run}
use Rattle.journal.specs.Text.{journal_text}
use Rattle.journal.specs.declared.lines.Line.{Line}
use Rattle.journal.specs.declared.fault.JournalFault.{JournalFault}
use Rattle.journal.specs.declared.fault.JournalFault.TheVariants.{OutOfMemory, BadEntry, Illegal}
use Rattle.numbering.specs.Numbered.{IsNumbered}
use Rattle.journal.specs.Journal.{IsFirstBad}
use Rattle.replay.specs.Lines.{line_of}
use Rattle.command_line.specs.declared.fault.Fault.{Fault}
use Rattle.command_line.specs.declared.fault.Fault.TheVariants as told
use Rattle.engines.specs.Journals.{IsJournalAt, IsFrontOf, IsReplay, IsReplayFault, IsAnswerAfter, IsFaultOfLines, journal_fault}

-- a book of a base and a block
module _ (base : Base) (block : List (Request Id)) (book : Run) (terms_are : book.terms ≡ base.terms) (dataset_is : book.base ≡ base.dataset) (block_is : book.block ≡ block) where
  pub front_outcome : (o : Outcome) → (o.dataset, o.replies) ≡ front_run book → (o.dataset, o.replies) ≡ run_of_first (numbers base.terms) (state_of book).front block base.dataset
  front_outcome o is =
      is
      ∙ ap (λ (ts : List Term). run_of_first (numbers ts) (state_of book).front book.block book.base) terms_are
      ∙ ap (λ (b : List (Request Id)). run_of_first (numbers base.terms) (state_of book).front b book.base) block_is
      ∙ ap (λ (d : Dataset Id). run_of_first (numbers base.terms) (state_of book).front block d) dataset_is

  pub journal_at : (journal : List ℕ) → IsHistory (setting_of book) book.history → journal ≡ journal_text base.tag (map (line_of book.terms) book.history)
      → IsJournalAt base block journal (state_of book).front
  journal_at journal lawful is = record {
    book = book;
    terms_are = terms_are;
    dataset_is = dataset_is;
    block_is = block_is;
    lawful = lawful;
    journal_is = is ∙ ap (λ (ts : List Term). journal_text base.tag (map (line_of ts) book.history)) terms_are;
    front_is = refl;
  }

-- ---- a journal of a dataset and a block

module _ (before : Dataset Term) (requests : List (Request Term)) (base : Base) (block : List (Request Id)) (numbered : IsNumbered before requests base block) where
  -- the answer to a journal
  pub replay_is : (journal : List ℕ) (lines : List Line) → journal ≡ journal_text base.tag lines → (o : Outcome) (front : IsFrontOf base block lines o) → (dataset replies : List ℕ)
      → IsAnswerAfter (state_of front.book).front before requests dataset replies → IsReplay before requests journal dataset replies
  replay_is journal lines is o front dataset replies answer = record {
    front = (state_of front.book).front;
    journal_is = record {
      base = base;
      block = block;
      numbered = numbered;
      journal_is = journal_at base block front.book front.replayed.terms_are front.replayed.base_is front.replayed.block_is journal front.lawful
          (is ∙ ap (journal_text base.tag) (sym front.replayed.journal.printed ∙ ap (λ (ts : List Term). map (line_of ts) front.book.history) (sym front.replayed.terms_are)));
    };
    answer = answer;
  }

  -- the fault of a journal that was not read
  pub bad_journal : (tag : ℕ) (bytes journal : List ℕ) → tag ≡ base.tag → bytes ≡ journal → (fault : JournalFault) → ((n : ℕ) → fault ≡ BadEntry n → IsFirstBad tag bytes n)
      → ((n : ℕ) → fault ≡ Illegal n → ⊥) → IsReplayFault before requests journal (journal_fault fault)
  bad_journal tag bytes journal tag_is bytes_are OutOfMemory bad legal = tt
  bad_journal tag bytes journal tag_is bytes_are (BadEntry n) bad legal =
      (base, block, numbered, subst (λ (t : ℕ). IsFirstBad t journal n) tag_is (subst (λ (bs : List ℕ). IsFirstBad tag bs n) bytes_are (bad n refl)))
  bad_journal tag bytes journal tag_is bytes_are (Illegal n) bad legal = absurd (legal n refl)

  -- the fault of a journal that was read and is not lawful
  pub bad_lines : (journal : List ℕ) (lines : List Line) → journal ≡ journal_text base.tag lines → (fault : Fault) → IsFaultOfLines base block lines fault
      → IsReplayFault before requests journal fault
  bad_lines journal lines is (told.Illegal n) stops = (base, block, numbered, (lines, is, stops))
  bad_lines journal lines is told.Memory stops = tt
  bad_lines journal lines is (told.Line l) stops = absurd stops
  bad_lines journal lines is (told.BadLine n) stops = absurd stops
  bad_lines journal lines is told.BaseTooLong stops = absurd stops
  bad_lines journal lines is told.BlockTooLong stops = absurd stops
  bad_lines journal lines is told.TooManyRequests stops = absurd stops
  bad_lines journal lines is told.BadUtf8 stops = absurd stops
  bad_lines journal lines is (told.BadEntry n) stops = absurd stops
  bad_lines journal lines is (told.CannotRead f) stops = absurd stops
  bad_lines journal lines is (told.CannotWrite f) stops = absurd stops
