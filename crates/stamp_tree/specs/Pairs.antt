-- How the standings of a list stand two by two.
use Rattle.std.specs.Prelude.{◌<◌, ◌≤◌, List, [], ◌∷◌, length}
use Rattle.stamp_tree.specs.declared.standing.Standing.{Standing}
use Rattle.stamp_tree.specs.declared.tree.Above.{Above}
use Rattle.stamp_tree.specs.declared.tree.Above.TheVariants.{Nothing, Pairs}
use Rattle.stamp_tree.specs.Standings.{StandsFor}

-- one for each two of a list, and one for the last where it has no other
abbrev pub ArePairs : List Standing → List Standing → Type 0
ArePairs [] [] = Unit {0}
ArePairs [] (w ∷ ws) = ⊥
ArePairs (x ∷ xs) [] = ⊥
ArePairs (x ∷ []) (w ∷ []) = StandsFor w (x ∷ [])
ArePairs (x ∷ []) (w ∷ v ∷ ws) = ⊥
ArePairs (x ∷ y ∷ xs) (w ∷ ws) = StandsFor w (x ∷ y ∷ []) × ArePairs xs ws

-- above a list of several are its pairs, which are fewer
pub record IsPaired (list pairs : List Standing) : Type 0 where
  pub several : 1 < length list
  pub fewer : length pairs < length list
  pub pairs_are : ArePairs list pairs

abbrev pub IsSummed : List Standing → Above → Type 0
IsSummed list Nothing = length list ≤ 1
IsSummed list (Pairs tree) = IsPaired list tree.value
