-- A failed call of a device is told, and only such a one.
use Rattle.std.specs.Prelude.{◌≡◌, ◌+◌, ◌⊎◌, ℕ, Bool, true, false, Result, Err}
use Rattle.command_line.specs.declared.fault.Fault.{Fault}
use Rattle.command_line.specs.declared.fault.Fault.TheVariants as told
use Rattle.command_line.specs.declared.fault.File.{File}
use Rattle.command_line.specs.declared.fault.File.TheVariants as file

-- it is told that this file could not be read
abbrev pub is_unread : {A : Type 0} → File → Result A Fault → Bool
is_unread file.Base (Err (told.CannotRead file.Base)) = true
is_unread file.Block (Err (told.CannotRead file.Block)) = true
is_unread file.Journal (Err (told.CannotRead file.Journal)) = true
is_unread f result = false

-- it is told that the answer could not be written
abbrev pub is_unwritten : {A : Type 0} → Result A Fault → Bool
is_unwritten (Err (told.CannotWrite file.Answer)) = true
is_unwritten result = false

-- it is told that the journal could not be written
abbrev pub is_journal_unwritten : {A : Type 0} → Result A Fault → Bool
is_journal_unwritten (Err (told.CannotWrite file.Journal)) = true
is_journal_unwritten result = false

-- a device's count of failed calls, before and after: one more where a failure is told, and else
-- the same
abbrev pub FailedIf : Bool → (old new : ℕ) → Type 0
FailedIf true old new = new ≡ old + 1
FailedIf false old new = new ≡ old

-- the counts of two devices: one more of one of them where a failure is told, and else both the
-- same
abbrev pub OneFailedIf : Bool → (first_old first_new second_old second_new : ℕ) → Type 0
OneFailedIf true first_old first_new second_old second_new =
    ((first_new ≡ first_old + 1) × (second_new ≡ second_old)) ⊎ ((first_new ≡ first_old) × (second_new ≡ second_old + 1))
OneFailedIf false first_old first_new second_old second_new = (first_new ≡ first_old) × (second_new ≡ second_old)

-- it is told of no file that it could not be written
abbrev pub TellsNoWrite : {A : Type 0} → Result A Fault → Type 0
TellsNoWrite result = (is_unwritten result ≡ false) × (is_journal_unwritten result ≡ false)

-- it is told of neither of these two files that it could not be read
abbrev pub TellsNoRead : {A : Type 0} → (first second : File) → Result A Fault → Type 0
TellsNoRead first second result = (is_unread first result ≡ false) × (is_unread second result ≡ false)

-- no file but this one is told to have failed
abbrev pub TellsNoOther : {A : Type 0} → File → Result A Fault → Type 0
TellsNoOther file.Base result = TellsNoRead file.Block file.Journal result × TellsNoWrite result
TellsNoOther file.Block result = TellsNoRead file.Base file.Journal result × TellsNoWrite result
TellsNoOther file.Journal result = TellsNoRead file.Base file.Block result × TellsNoWrite result
TellsNoOther file.Answer result = TellsNoRead file.Base file.Block result × (is_unread file.Journal result ≡ false) × (is_journal_unwritten result ≡ false)
