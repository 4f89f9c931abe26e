-- What a check of a note finds.
use Rattle.std.specs.Prelude.{◌≡◌, ◌≢◌, ℕ, List, Some, None}
use Rattle.reads.specs.Reads.{View, Read, says}
use Rattle.incarnations.specs.Slots.{Noted, Slot}
use Rattle.validate.specs.declared.checks.Verdict.{Verdict}
use Rattle.validate.specs.declared.checks.Verdict.TheVariants as verdict
use Rattle.validate.specs.Below.{view_at, blocker, touching}

-- by answers: blocked as for a read; else the same where the answer is the same now
abbrev pub NoteVerdict : View → List Slot → ℕ → Noted → Verdict → Type 0
NoteVerdict base slots i note (verdict.Blocked j) = blocker slots i note.read ≡ Some j
NoteVerdict base slots i note verdict.Same = (blocker slots i note.read ≡ None) × (note.answer ≡ says note.read (view_at base slots i))
NoteVerdict base slots i note verdict.Changed = (blocker slots i note.read ≡ None) × (note.answer ≢ says note.read (view_at base slots i))

-- by touching lists alone, with no answer
abbrev pub ListVerdict : List Slot → ℕ → Read → List (ℕ × ℕ) → Verdict → Type 0
ListVerdict slots i read list (verdict.Blocked j) = blocker slots i read ≡ Some j
ListVerdict slots i read list verdict.Same = (blocker slots i read ≡ None) × (list ≡ touching slots i read)
ListVerdict slots i read list verdict.Changed = (blocker slots i read ≡ None) × (list ≢ touching slots i read)
