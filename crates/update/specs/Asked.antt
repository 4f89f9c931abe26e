-- What a run asks at its end, and what it makes of the answers.
use Rattle.std.specs.Prelude.{◌≡◌, ℕ, ◌<◌, ◌^◌, length, slice_get, Bool, true, false, List, [], ◌∷◌, Some, Ok, Err}
use Rattle.std.specs.List.{AllByRecursion}
use Rattle.datasets.specs.declared.id.Id.{Id}
use Rattle.datasets.specs.declared.quad.Quad.{Quad}
use Rattle.datasets.specs.declared.read.Read.TheVariants.{GraphIs}
use Rattle.datasets.specs.Dataset.{Told, Quads, Is, Names}
use Rattle.meaning.specs.Run.{Request}
use Rattle.algebra.specs.declared.update.Operation.{Operation}
use Rattle.reads.specs.Reads.{Delta, Read}
use Rattle.reads.specs.Presence.{scan_for}

-- whether the answer tells of some quad; an answer of the wrong kind tells of none
abbrev pub has_quads : {K : Type 0} → Told K → Bool
has_quads (Quads []) = false
has_quads (Quads (q ∷ qs)) = true
has_quads (Is so) = false
has_quads (Names names) = false

-- whether the answer tells that a name is there
abbrev pub has_name : {K : Type 0} → Told K → Bool
has_name (Quads quads) = false
has_name (Is so) = so
has_name (Names names) = false

-- a request has fewer operations than a node's number of an operation can tell apart
abbrev pub IsShort : {K : Type 0} → Request K → Type 0
IsShort (Ok ops) = length ops < 2 ^ 32
IsShort (Err refusal) = Unit {0}

-- no request of a block has too many operations
abbrev pub AreShort : {K : Type 0} → List (Request K) → Type 0
AreShort {K} block = (i : ℕ) (r : Request K) → slice_get block i ≡ Some r → IsShort r

-- the operations, none where the request is refused
abbrev pub operations_of : {K : Type 0} → Request K → List (Operation K)
operations_of (Ok ops) = ops
operations_of (Err refusal) = []

-- what asks for these quads, and for these names, is allowed
abbrev pub AskedQuads : (Read → Bool) → List (Quad Id) → Type 0
AskedQuads allowed quads = AllByRecursion (λ q. allowed (scan_for q) ≡ true) quads

abbrev pub AskedNames : (Read → Bool) → List Id → Type 0
AskedNames allowed names = AllByRecursion (λ g. allowed (GraphIs g) ≡ true) names

-- what asks for all that a change speaks of is allowed
pub record IsWithin (allowed : Read → Bool) (c : Delta) : Type 0 where
  pub present : AskedQuads allowed c.present
  pub absent : AskedQuads allowed c.absent
  pub there : AskedNames allowed c.there
  pub gone : AskedNames allowed c.gone
