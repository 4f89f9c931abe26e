-- Calls that a source is passed to.
use Rattle.std.specs.Prelude.{◌≡◌, Bool, true, List, [], ◌++◌, map, Option, Some, None, Result, Ok, Err, ◌⊎◌}
use Rattle.std.specs.List.{AllByRecursion}
use Rattle.reads.specs.Reads.{Read, Answer}
use Rattle.reads.specs.Asking.{Asked}
use Rattle.reads.specs.declared.note.Note.{Note}
use Rattle.reads.specs.declared.source.Stop.{Stop}
use Rattle.reads.specs.declared.source.Stop.TheVariants.{Memory}

-- each noted read is allowed
abbrev pub AllAllowed : (Read → Bool) → List Note → Type 0
AllAllowed allowed notes = AllByRecursion (λ n. allowed n.read ≡ true) notes

-- why a call stopped, if it did
abbrev pub stop_of : {A : Type 0} → Result A Stop → Option Stop
stop_of (Ok a) = None
stop_of (Err stop) = Some stop

-- each of the reads is allowed
abbrev pub AreAllowed : (Read → Bool) → List Read → Type 0
AreAllowed allowed reads = AllByRecursion (λ r. allowed r ≡ true) reads

-- the notes are those before, and then one of each of the reads, in order
abbrev pub AreNoted : List Read → List Note → List Note → Type 0
AreNoted reads notes notes' = (more : List Note) × (notes' ≡ notes ++ more) × (map (λ n. n.read) more ≡ reads)

-- what asking a source of this type for a read may come to
module _ {S : Type 0} (asks : S → Read → Result Answer Stop → S → Type 0) where
  -- A call that has asked so far ends: with its value, for want of memory, or by asking for one
  -- allowed read more, at which the source stopped, as the call does.
  abbrev pub Ends : (Read → Bool) → S → Option Stop → S → Type 0
  Ends allowed before None after = before ≡ after
  Ends allowed before (Some stop) after =
      ((stop ≡ Memory) × (before ≡ after)) ⊎ ((r : Read) × (allowed r ≡ true) × asks before r (Err stop) after)

  -- A call that a source was passed to, with notes: it asked for what it noted, in order, and for
  -- nothing else but at most one read at which the source stopped, and each is allowed. It stops
  -- where the source does, so as that did, and for want of memory.
  pub record Goes (allowed : Read → Bool) (before after : S) (notes notes' : List Note) (stop : Option Stop) : Type 0 where
    pub more : List Note
    pub noted : notes' ≡ notes ++ more
    pub near : AllAllowed allowed more
    pub last : S
    pub asked : Asked asks before more last
    pub ends : Ends allowed last stop after

  -- A call that stops: it asked for some allowed reads, which were answered, and then memory ran
  -- out, or the source stopped as the call does.
  abbrev pub Stops : (Read → Bool) → S → S → Stop → Type 0
  Stops allowed before after stop = (notes : List Note) × Goes allowed before after [] notes (Some stop)
