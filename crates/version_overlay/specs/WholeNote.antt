-- Reads with their answers, which are kept or found again.
use Rattle.std.specs.Prelude.{◌≡◌, ◌≤◌, List, [], Option, Some, None, length}
use Rattle.datasets.specs.Dataset.{Quads, Is, Names}
use Rattle.reads.specs.Reads.{View, Delta, Read, Answer, says}
use Rattle.version_overlay.specs.Settled.{changed_by}

-- the changes, where there are any
abbrev pub listed : Option (List Delta) → List Delta
listed None = []
listed (Some changes) = changes

-- the answer that is kept, and else what the read says of the base after the changes
abbrev pub answer_in : Read → View → Option (List Delta) → Option Answer → Answer
answer_in read base changes (Some answer) = answer
answer_in read base changes None = says read (changed_by (listed changes) base)

-- an answer that is kept though it may be forgotten is the one that would be found again
abbrev pub CanForget : Read → View → Option (List Delta) → Option Answer → Type 0
CanForget read base (Some changes) (Some answer) = answer ≡ says read (changed_by changes base)
CanForget read base (Some changes) None = Unit {0}
CanForget read base None answer = Unit {0}

-- an answer of 64 quads or names, or more
abbrev pub IsLong : Answer → Type 0
IsLong (Quads quads) = 64 ≤ length quads
IsLong (Is so) = ⊥
IsLong (Names names) = 64 ≤ length names
