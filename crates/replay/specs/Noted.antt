-- Notes that answer a run again, one after another.
use Rattle.std.specs.Prelude.{◌≡◌, ◌≢◌, Bool, true, List, [], ◌∷◌, ◌++◌, Result, Ok, Err}
use Rattle.datasets.specs.declared.id.Id.{Id}
use Rattle.datasets.specs.Id.{id_order}
use Rattle.asking.specs.Goes.{AllAllowed}
use Rattle.asking.specs.Near.{is_near_request}
use Rattle.meaning.specs.Run.{Request}
use Rattle.meaning.specs.declared.reply.Reply.{Reply}
use Rattle.reads.specs.Reads.{View, Read, Answer}
use Rattle.reads.specs.declared.note.Note.{Note}
use Rattle.reads.specs.declared.source.Stop.{Stop}
use Rattle.reads.specs.declared.source.Stop.TheVariants.{Blocked, Memory, Stale}
use Rattle.delta.specs.Sound.{IsSoundFor}
use Rattle.delta.specs.declared.finished.Finished.{Finished}
use Rattle.update.specs.Asked.{operations_of}

-- the notes that are left to answer, and whether the run asked for something else
pub record Answerer : Type 0 where
  pub left : List Note
  pub is_off : Bool

-- the first of these notes is of another read, or there is none
abbrev pub IsOther : Read → List Note → Type 0
IsOther r [] = Unit {0}
IsOther r (n ∷ ns) = n.read ≢ r

-- the first of these notes is of this read
abbrev pub IsFirst : Read → List Note → Type 0
IsFirst r [] = ⊥
IsFirst r (n ∷ ns) = n.read ≡ r

-- these are the first of the notes
abbrev pub BeginsWith : List Note → List Note → Type 0
BeginsWith notes first = (left : List Note) × (notes ≡ first ++ left)

-- The next note is of this read, and has the answer; or memory runs out for it. Nothing waits, and a
-- run that asks for something else is out of date.
abbrev pub AsksNext : Answerer → Read → Result Answer Stop → Answerer → Type 0
AsksNext a r (Ok answer) a' = (a.left ≡ record { read = r; answer = answer } ∷ a'.left) × (a'.is_off ≡ a.is_off)
AsksNext a r (Err (Blocked lower)) a' = ⊥
AsksNext a r (Err Memory) a' = IsFirst r a.left × (a'.is_off ≡ a.is_off)
AsksNext a r (Err Stale) a' = IsOther r a.left × (a'.left ≡ a.left) × (a'.is_off ≡ true)

-- A run of the request that the first of these notes answer asks for another read than the next
-- note's, or for one more. Each read is near the request.
pub record AsksForOther (request : Request Id) (notes : List Note) : Type 0 where
  pub answered : List Note
  pub left : List Note
  pub are : notes ≡ answered ++ left
  pub near : AllAllowed (is_near_request id_order (operations_of request)) answered
  pub read : Read
  pub near_too : is_near_request id_order (operations_of request) read ≡ true
  pub other : IsOther read left

-- a sound run has the first of these notes as its transcript, and some are left
pub record EndsBefore (known : Id → Bool) (answer : View → View × Reply) (notes : List Note) : Type 0 where
  pub finished : Finished
  pub sound : IsSoundFor known answer finished
  pub left : List Note
  pub some : left ≢ []
  pub are : notes ≡ finished.transcript ++ left
