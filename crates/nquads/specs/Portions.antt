-- A text that is read in portions, each of whole lines.
use Rattle.std.specs.Prelude.{◌≡◌, ◌+◌, ◌++◌, ℕ, List, [], ◌∷◌, true, length, Option, Some, None}
use Rattle.std.specs.Io.KnownBytes.{Consumes, IsAtEnd}
use Rattle.nquads_lines.specs.Lines.{lines}
use Rattle.nquads.specs.declared.fault.BaseFault.{BaseFault}
use Rattle.nquads.specs.declared.fault.BaseFault.TheVariants as fault
use Rattle.nquads.specs.declared.reader.ReadText.{ReadText}
use Rattle.terms.specs.DataSet.{united}
use Rattle.nquads.specs.declared.pieces.ReadLines.{ReadLines}
use Rattle.nquads.specs.declared.pieces.ReadPieces.{ReadPieces}
use Rattle.nquads.specs.declared.pieces.ReadPieces.TheVariants.{Only, Behind'}
use Rattle.nquads.specs.declared.portions.PartlyRead.{PartlyRead}
use Rattle.nquads.specs.Pieces.{ArePieces}
use Rattle.nquads_lines.specs.declared.stop.Line.{Line}
use Rattle.nquads.specs.Spelled.{AreLines, Spells, IsFirstBad, IsFirstBadOf}
use Rattle.nquads.specs.Long.{ended_lines}

-- what a text says, and how many of its lines have an end
pub record IsReadText (text : List ℕ) (read : ReadText) : Type 0 where
  pub spelled : Spells text read.dataset
  pub ends : read.ends + 1 ≡ length (lines text)

-- the last line that is begun has an end
abbrev pub EndsWithLine : List ℕ → Type 0
EndsWithLine text = (front : List ℕ) × (text ≡ front ++ 10 ∷ [])

-- what a text says that was read in pieces, each but the last ending with an LF, and how many of
-- its lines have an end
abbrev pub AreRead : List ℕ → ReadPieces → Type 0
AreRead text (Only read) = IsReadText text read
AreRead text (Behind' p first last) = (front rest : List ℕ) × ArePieces text front rest × AreRead front first × IsReadText rest last

-- how many lines of all pieces have an end
abbrev pub ends_in : ReadPieces → ℕ
ends_in (Only read) = read.ends
ends_in (Behind' p first last) = ends_in first + last.ends

-- nothing, or whole lines and what they say
abbrev pub IsFrontRead : List ℕ → Option ReadText → Type 0
IsFrontRead front None = front ≡ []
IsFrontRead front (Some read) = EndsWithLine front × IsReadText front read

-- how many lines have an end
abbrev pub ends_of : Option ReadText → ℕ
ends_of None = 0
ends_of (Some read) = read.ends

-- two texts, of which the first ends with an LF, as one
abbrev pub both : ReadText → ReadText → ReadText
both first later = record { dataset = united first.dataset later.dataset; ends = first.ends + later.ends }

-- a text behind the lines that were read
abbrev pub behind : Option ReadText → ReadText → ReadText
behind None later = later
behind (Some read) later = both read later

-- pieces behind the lines that were read
abbrev pub all_behind : Option ReadText → ReadPieces → ReadText
all_behind front (Only read) = behind front read
all_behind front (Behind' p first last) = both (all_behind front first) last

abbrev pub if_behind : Option ReadText → Option ReadPieces → Option ReadText
if_behind front None = front
if_behind front (Some pieces) = Some (all_behind front pieces)

-- whole lines that were read, as one text
abbrev pub as_one : ReadLines → Option ReadText
as_one lines = if_behind lines.front lines.behind

-- of the bytes that a reader had left before, some came: first whole lines, which were read, and
-- then others
pub record IsPartlyRead (before now : Option (List ℕ)) (read : PartlyRead) : Type 0 where
  pub front : List ℕ
  pub taken : Consumes before now (front ++ read.rest.items)
  pub said : IsFrontRead front (as_one read.lines)
  pub count : read.len ≡ length front
  pub all : read.is_all ≡ true → IsAtEnd now

-- the bytes of a text did not come, or there was no memory
abbrev pub DidNotCome : BaseFault → Type 0
DidNotCome fault.OutOfMemory = Unit {0}
DidNotCome (fault.BadLine n) = ⊥
DidNotCome fault.TooLong = ⊥
DidNotCome fault.Device = Unit {0}

-- why a text was not read before which some lines come: its first bad line, counted with those
abbrev pub StopsBehind : ℕ → List ℕ → BaseFault → Type 0
StopsBehind before text fault.OutOfMemory = Unit {0}
StopsBehind before text (fault.BadLine n) = (m : ℕ) × (n ≡ before + m) × IsFirstBad text m
StopsBehind before text fault.TooLong = ⊥
StopsBehind before text fault.Device = ⊥

-- the same, where bytes behind the text may not have come either
abbrev pub StopsFurther : ℕ → List ℕ → BaseFault → Type 0
StopsFurther before text fault.OutOfMemory = Unit {0}
StopsFurther before text (fault.BadLine n) = StopsBehind before text (fault.BadLine n)
StopsFurther before text fault.TooLong = ⊥
StopsFurther before text fault.Device = Unit {0}

-- the same of a text that is longer than a limit, of which those lines count that lie with their
-- end within it: it may be too long, and each says what a line may say
abbrev pub StopsWithin : ℕ → ℕ → List ℕ → BaseFault → Type 0
StopsWithin before limit text fault.OutOfMemory = Unit {0}
StopsWithin before limit text (fault.BadLine n) = (m : ℕ) × (n ≡ before + m) × IsFirstBadOf (ended_lines limit text) m
StopsWithin before limit text fault.TooLong = (said : List Line) × AreLines (ended_lines limit text) said
StopsWithin before limit text fault.Device = ⊥
