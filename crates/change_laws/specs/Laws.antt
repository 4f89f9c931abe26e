-- What holds of every dataset, change and read, in any order of terms that is total and exact.
use Rattle.std.specs.Prelude.{◌≡◌, false}
use Rattle.std.specs.declared.cmp.Ordering.{Ordering}
use Rattle.std.specs.List.Sorted.{IsStrictlySortedBy}
use Rattle.datasets.specs.declared.read.Read.{Read}
use Rattle.datasets.specs.Dataset.{Dataset, Change, Told, Quads, Is, Names, quad_order, says, apply, covers}

module _ {K : Type 0} (R : K → K → Ordering) where
  -- the quads rise, and the names
  pub record IsRising (d : Dataset K) : Type 0 where
    pub quads : IsStrictlySortedBy (quad_order R) d.quads
    pub names : IsStrictlySortedBy R d.names

  -- what is told rises
  abbrev pub TellsRising : Told K → Type 0
  TellsRising (Quads quads) = IsStrictlySortedBy (quad_order R) quads
  TellsRising (Is so) = Unit {0}
  TellsRising (Names names) = IsStrictlySortedBy R names

  -- a change that does not cover a read leaves what it says as it was
  abbrev pub UncoveredKeeps : Type 0
  UncoveredKeeps = (c : Change K) (d : Dataset K) (r : Read K) → IsRising d → covers R c r ≡ false → says R r (apply R c d) ≡ says R r d

  -- what a read says after a change depends only on what it said before
  abbrev pub SameAfter : Type 0
  SameAfter =
      (c : Change K) (d e : Dataset K) (r : Read K) → says R r d ≡ says R r e → says R r (apply R c d) ≡ says R r (apply R c e)

  -- after a change the quads rise, and the names
  abbrev pub RisesAfter : Type 0
  RisesAfter = (c : Change K) (d : Dataset K) → IsRising (apply R c d)

  -- what a read says of a dataset that rises does so too
  abbrev pub SaysRising : Type 0
  SaysRising = (d : Dataset K) (r : Read K) → IsRising d → TellsRising (says R r d)
