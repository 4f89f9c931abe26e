-- The line at the front of a text, and what follows it.
use Rattle.std.specs.Prelude.{ℕ, ◌≡◌, ◌==◌, ◌&&◌, ◌++◌, Bool, true, nat_eq, List, [], ◌∷◌, All, Option, Some, None, is_some, if◌then◌else◌}
use Rattle.std.specs.Cmp.Lexicographic.{pointwise}
use Rattle.std.specs.Str.{is_utf8}
use Rattle.iris.specs.Runs.{run_of, rest_of}
use Rattle.iris.specs.Bracketed.{◌>>=◌}
use Rattle.nquads_lines.specs.Lines.{is_inner}
use Rattle.canonical_nquads.specs.Tag.{mark_of}
use Rattle.journal.specs.declared.fault.JournalFault.{JournalFault}
use Rattle.journal.specs.declared.fault.JournalFault.TheVariants as fault
use Rattle.journal.specs.declared.lines.Line.{Line}
use Rattle.journal.specs.Journal.{IsBad}
use Rattle.journal.specs.Text.{line_body, journal_text}
use Rattle.journal.specs.Lines.{IsLine}
use Rattle.journal.specs.Reading.{line_of}

-- what follows an LF
abbrev pub after_lf : List ℕ → Option (List ℕ)
after_lf [] = None
after_lf (b ∷ bs) = if b == 10 then Some bs else None

-- the line that these bytes are the text of
unfoldable pub line_at : ℕ → List ℕ → List ℕ → Option Line
line_at tag mark bytes = line_of mark bytes >>= λ l. if pointwise nat_eq (line_body tag l) bytes then Some l else None

unfoldable pub entry_at : ℕ → List ℕ → List ℕ → Option (Line × List ℕ)
entry_at tag mark text = do
  rest ← after_lf (rest_of is_inner text)
  l ← line_at tag mark (run_of is_inner text)
  Some (l, rest)

-- whether bytes in UTF-8 stand at the front, up to an LF that ends them
abbrev pub has_line : List ℕ → Bool
has_line text = is_utf8 (run_of is_inner text) && is_some (after_lf (rest_of is_inner text))

-- Why no line was read at the front of a text, which would be this entry.
abbrev pub Faults : ℕ → List ℕ → ℕ → JournalFault → Type 0
Faults tag text n fault.OutOfMemory = has_line text ≡ true
Faults tag text n (fault.BadEntry m) = (m ≡ n) × IsBad tag text
Faults tag text n (fault.Illegal m) = ⊥

-- where memory runs out behind some lines, what stands there may be a line
pub record IsCutShort (tag : ℕ) (bytes : List ℕ) : Type 0 where
  pub before : List Line
  pub rest : List ℕ
  pub text : bytes ≡ journal_text tag before ++ rest
  pub each : All (IsLine (mark_of tag)) before
  pub here : has_line rest ≡ true
