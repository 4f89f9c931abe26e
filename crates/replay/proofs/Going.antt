-- A journal's lines, one more at a time.
use Rattle.std.proofs.Common.{◌≡◌, ℕ, ◌+◌, ◌<◌, List, length, take, get_or, refl, sym, ap, ◌∙◌, subst, arith}
use Rattle.std.specs.Prelude.{slice_get}
use Rattle.std.proofs.lemmas.List.{length-take-le, length-map}
use Rattle.std.proofs.lemmas.Option.{slice_get_read}
use Rattle.terms.specs.declared.term.Term.{Term}
use Rattle.datasets.specs.declared.id.Id.{Id}
use Rattle.meaning.specs.Run.{Request}
use Rattle.reads.specs.Reads.{View}
use Rattle.incarnations.specs.declared.state.Entry.{Entry}
use Rattle.block_machine.specs.Serial.{IsHistory}
use Rattle.book.specs.Run.{Run, setting_of}
use Rattle.journal.specs.declared.lines.Line.{Line}
use Rattle.replay.specs.Lines.{line_of, HasLines}
use Rattle.replay.specs.Replays.{IsUnlawful, StopsAt}

module _ (terms : List Term) (lines : List Line) (i : ℕ) (lt : i < length lines) where
  -- a journal of the first i lines has i entries
  entries : (history : List Entry) → HasLines terms history (take i lines) → length history ≡ i
  entries history h = sym (length-map history (line_of terms)) ∙ ap length h.printed ∙ length-take-le i lines (omega (arith, lt))

module _ (terms : List Term) (base : View) (block : List (Request Id)) (lines : List Line) where
  -- a book of these terms, base and block whose journal has the first n lines
  pub record IsBegun (book : Run) (n : ℕ) : Type 0 where
    pub terms_are : book.terms ≡ terms
    pub base_is : book.base ≡ base
    pub block_is : book.block ≡ block
    pub journal : HasLines terms book.history (take n lines)

  pub stops : (book : Run) (i : ℕ) (line : Line) (n : ℕ) → IsBegun book i → i < length lines → line ≡ get_or lines i line → n ≡ length book.history + 1 → IsHistory (setting_of book) book.history → IsUnlawful book line → StopsAt terms base block lines n
  stops book i line n b lt at number lawful unlawful =
      let count : length book.history ≡ i = entries terms lines i lt book.history b.journal in
      let same : book ≡ record { terms = terms; base = base; block = block; history = book.history } =
      (λ z. record { terms = b.terms_are z; base = b.base_is z; block = b.block_is z; history = book.history }) in
      record {
        history = book.history;
        line = line;
        number = number;
        at = ap (slice_get lines) count ∙ slice_get_read lines (length lines) i line refl lt at;
        before = subst (λ (k : ℕ). HasLines terms book.history (take k lines)) (sym count) b.journal;
        lawful = subst (λ (r : Run). IsHistory (setting_of r) book.history) same lawful;
        unlawful = subst (λ (r : Run). IsUnlawful r line) same unlawful;
      }
