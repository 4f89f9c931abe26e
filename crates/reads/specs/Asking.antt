-- What asking a source comes to.
use Rattle.std.specs.Prelude.{◌≡◌, List, [], ◌∷◌, ◌++◌, map, Some, Result, Ok, Err, ◌⊎◌, slice_get}
use Rattle.reads.specs.Reads.{Read, Answer}
use Rattle.reads.specs.declared.note.Note.{Note}
use Rattle.reads.specs.declared.source.Stop.{Stop}
use Rattle.reads.specs.declared.source.Stop.TheVariants.{Memory}

-- what asking a source of this type for a read may come to
module _ {S : Type 0} (asks : S → Read → Result Answer Stop → S → Type 0) where
  -- the source was asked for the read of each note in turn, answered what is noted, and so came
  -- from one state to another
  abbrev pub Asked : S → List Note → S → Type 0
  Asked before [] after = before ≡ after
  Asked before (n ∷ ns) after = (next : S) × asks before n.read (Ok n.answer) next × Asked next ns after

  -- A call for reads of which these are left ends: with none left, for want of memory, or by asking
  -- for the first of them, at which the source stopped, as the call does.
  abbrev pub EndsAt : {A : Type 0} → List Read → S → Result A Stop → S → Type 0
  EndsAt left before (Ok a) after = (left ≡ []) × (before ≡ after)
  EndsAt left before (Err stop) after =
      ((stop ≡ Memory) × (before ≡ after)) ⊎ ((r : Read) × (slice_get left 0 ≡ Some r) × asks before r (Err stop) after)

  -- A call that asks for these reads: it asked for some in order and noted each with its answer,
  -- and then it ended, with the others left.
  pub record AsksAll {A : Type 0} (before : S) (reads : List Read) (notes notes' : List Note) (result : Result A Stop) (after : S) : Type 0 where
    pub more : List Note
    pub left : List Read
    pub noted : notes' ≡ notes ++ more
    pub in_order : reads ≡ map (λ n. n.read) more ++ left
    pub last : S
    pub asked : Asked before more last
    pub ends : EndsAt left last result after
