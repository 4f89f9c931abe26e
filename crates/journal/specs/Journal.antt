-- Which lines a journal has, and which of its entries is the first bad one.
use Rattle.std.specs.Prelude.{ℕ, ◌≡◌, ◌≢◌, ◌+◌, ◌⊎◌, List, [], ◌++◌, length, All}
use Rattle.canonical_nquads.specs.Tag.{mark_of}
use Rattle.journal.specs.declared.lines.Line.{Line}
use Rattle.journal.specs.Text.{line_text, first_line, journal_text}
use Rattle.journal.specs.Lines.{IsLine}

-- the bytes are the text of these lines
pub record IsJournal (tag : ℕ) (bytes : List ℕ) (lines : List Line) : Type 0 where
  pub text : bytes ≡ journal_text tag lines
  pub each : All (IsLine (mark_of tag)) lines

-- the first line is another
abbrev pub IsForeign : List ℕ → Type 0
IsForeign bytes = (rest : List ℕ) → bytes ≡ first_line ++ rest → ⊥

-- no line's text stands at the front
abbrev pub IsBad : ℕ → List ℕ → Type 0
IsBad tag text = (l : Line) (rest : List ℕ) → IsLine (mark_of tag) l → text ≡ line_text tag l ++ rest → ⊥

-- behind the lines before entry n more stands, and no line's text
pub record IsBadBehind (tag : ℕ) (bytes : List ℕ) (n : ℕ) : Type 0 where
  pub before : List Line
  pub rest : List ℕ
  pub text : bytes ≡ journal_text tag before ++ rest
  pub each : All (IsLine (mark_of tag)) before
  pub number : n ≡ length before + 1
  pub more : rest ≢ []
  pub here : IsBad tag rest

-- the first bad entry, where entry 0 is the first line
abbrev pub IsFirstBad : ℕ → List ℕ → ℕ → Type 0
IsFirstBad tag bytes n = ((n ≡ 0) × IsForeign bytes) ⊎ IsBadBehind tag bytes n
