-- A base that comes in pieces: which of its lines have an end that is known, and what each piece is
-- answered.
use Rattle.std.specs.Prelude.{ℕ, ◌<◌, ◌≤◌, ◌≡◌, ◌==◌, nat_le, List, [], ◌∷◌, ◌++◌, length, Option, Some, None, IfSome, MatchOption, Result, Ok, Err, if◌then◌else◌}
use Rattle.std.specs.Option.{option_map_or}
use Rattle.datasets.specs.Dataset.{Dataset}
use Rattle.terms.specs.declared.term.Term.{Term}
use Rattle.nquads.specs.declared.fault.BaseFault.{BaseFault}
use Rattle.nquads.specs.declared.fault.BaseFault.TheVariants as fault
use Rattle.nquads_lines.specs.Lines.{lines}
use Rattle.nquads.specs.Spelled.{IsFirstBadOf}
use Rattle.nquads.specs.Long.{but_last, ended_lines, IsAnswer}

-- Of a CR that comes last it is not known whether an LF follows.
abbrev pub without_last_cr : List ℕ → List ℕ
without_last_cr [] = []
without_last_cr (b ∷ []) = if b == 13 then [] else b ∷ []
without_last_cr (b ∷ c ∷ bs) = b ∷ without_last_cr (c ∷ bs)

-- the lines whose end is known: an LF has come, or a CR and a byte behind it
abbrev pub lines_that_ended : List ℕ → List (List ℕ)
lines_that_ended bytes = but_last (lines (without_last_cr bytes))

-- the lines whose end is known within the first bytes up to the limit
abbrev pub known_lines : ℕ → List ℕ → List (List ℕ)
known_lines limit bytes = if nat_le (length bytes) limit then lines_that_ended bytes else ended_lines limit bytes

abbrev pub NoneIsBad : List (List ℕ) → Type 0
NoneIsBad all = (n : ℕ) → IsFirstBadOf all n → ⊥

-- why a piece was refused with which these are all bytes
abbrev pub Stops : ℕ → List ℕ → BaseFault → Type 0
Stops limit all fault.OutOfMemory = Unit {0}
Stops limit all (fault.BadLine n) = IsFirstBadOf (known_lines limit all) n
Stops limit all fault.TooLong = (limit < length all) × NoneIsBad (known_lines limit all)
Stops limit all fault.Device = ⊥

-- what was fed: the bytes, and the fault that was told of them, if one was
pub record Fed : Type 0 where
  pub bytes : List ℕ
  pub told : Option BaseFault

abbrev pub nothing_fed : Fed
nothing_fed = record { bytes = []; told = None }

-- what a piece is answered with which these are all bytes, if no fault was told before
abbrev pub Takes : {A : Type 0} → ℕ → List ℕ → Result A BaseFault → Type 0
Takes limit all (Ok x) = (length all ≤ limit) × NoneIsBad (known_lines limit all)
Takes limit all (Err f) = Stops limit all f

-- What a piece is answered. A fault that was told is told again.
abbrev pub AnswersPiece : {A : Type 0} → ℕ → Fed → List ℕ → Result A BaseFault → Type 0
AnswersPiece limit before piece result = MatchOption before.told (Takes limit (before.bytes ++ piece) result) (λ f. result ≡ Err f)

-- The fault that is told from then on. Memory may be there again.
abbrev pub lasting : BaseFault → Option BaseFault
lasting fault.OutOfMemory = None
lasting (fault.BadLine n) = Some (fault.BadLine n)
lasting fault.TooLong = Some fault.TooLong
lasting fault.Device = Some fault.Device

-- what was fed with a piece that was answered so: nothing more where there was no memory
abbrev pub fed_with : {A : Type 0} → Fed → List ℕ → Result A BaseFault → Fed
fed_with before piece (Ok x) = record { bytes = before.bytes ++ piece; told = before.told }
fed_with before piece (Err f) = option_map_or (λ g. record { bytes = before.bytes ++ piece; told = Some g }) (lasting f) before

-- What is answered at the end: what all bytes at once are, and a fault that was told.
abbrev pub AnswersAll : ℕ → Fed → Result (Dataset Term) BaseFault → Type 0
AnswersAll limit fed result = IsAnswer limit fed.bytes result × IfSome fed.told (λ f. result ≡ Err f)
