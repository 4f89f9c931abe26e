-- Asking a source again, with what its answers count as.
use Rattle.std.specs.Prelude.{◌≡◌, ℕ, Bool, List, ◌++◌, Some, Result, Ok, Err, ◌⊎◌, slice_get}
use Rattle.std.specs.List.{AllByRecursion}
use Rattle.datasets.specs.declared.id.Id.{Id}
use Rattle.dict.specs.Dictionary.{is_known}
use Rattle.reads.specs.Reads.{View, Read, Answer, says}
use Rattle.reads.specs.Runs.{Agrees}
use Rattle.reads.specs.Asking.{Asked}
use Rattle.reads.specs.declared.note.Note.{Note}
use Rattle.reads.specs.declared.source.Stop.{Stop}
use Rattle.reads.specs.declared.source.Stop.TheVariants.{Memory}
use Rattle.recount.specs.Counted.{counted_notes}
use Rattle.recount.specs.declared.again.Recount.{Recount}

-- at this place is a note of the read
abbrev pub IsNoteOf : Read → List Note → ℕ → Type 0
IsNoteOf r notes place = (n : Note) × (slice_get notes place ≡ Some n) × (n.read ≡ r)

-- the answer is what the read says of each dataset that the notes agree with, as they count
abbrev pub IsTold : (Id → Bool) → Read → List Note → Answer → Type 0
IsTold known r notes answer = (d : View) → Agrees (counted_notes known notes) d → answer ≡ says r d

module _ {S : Type 0} (asks : S → Read → Result Answer Stop → S → Type 0) where
  -- the source was asked for the read or not at all, and what it answered was noted as it came
  pub record IsNoted (before : S) (notes : List Note) (r : Read) (after : S) (notes' : List Note) : Type 0 where
    pub more : List Note
    pub noted : notes' ≡ notes ++ more
    pub same : AllByRecursion (λ n. n.read ≡ r) more
    pub asked : Asked asks before more after

  -- a call for the read ends: with its value, for want of memory, or as the source stops
  abbrev pub EndsWith : {A : Type 0} → (A → Type 0) → Read → S → Result A Stop → S → Type 0
  EndsWith Is r before (Ok a) after = (before ≡ after) × Is a
  EndsWith Is r before (Err stop) after = ((stop ≡ Memory) × (before ≡ after)) ⊎ asks before r (Err stop) after

  -- a call that notes a read, if need be, and then ends
  abbrev pub Recounts : {A : Type 0} → (List Note → A → Type 0) → S → List Note → Read → Result A Stop → S → List Note → Type 0
  Recounts Is before notes r result after notes' =
      (last : S) × IsNoted before notes r last notes' × EndsWith (Is notes') r last result after

  -- a recount is asked: it keeps its dictionary, its source and its notes
  pub record AsksAgain (before : Recount S) (r : Read) (result : Result Answer Stop) (after : Recount S) : Type 0 where
    pub dict : after.dict ≡ before.dict
    pub source : after.source.ghost_name ≡ before.source.ghost_name
    pub notes : after.notes.ghost_name ≡ before.notes.ghost_name
    pub recounts : Recounts (IsTold (is_known before.dict.now) r) before.source.now before.notes.now.items r result after.source.now after.notes.now.items
