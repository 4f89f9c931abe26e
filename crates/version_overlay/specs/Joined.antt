-- Which lists of changes come of joining few of them.
use Rattle.std.specs.Prelude.{ℕ, ◌+◌, ◌≤◌, ◌≡◌, List, ◌∷◌, ◌++◌, length}
use Rattle.std.specs.List.{sum_by}
use Rattle.reads.specs.Reads.{Delta}

-- how many quads and names a change speaks of
abbrev pub size_of : Delta → ℕ
size_of c = length c.present + (length c.absent + (length c.there + length c.gone))

-- how many changes speak of, one after another
abbrev pub size_of_all : List Delta → ℕ
size_of_all cs = sum_by size_of cs

-- how many quads and names are joined at most in one go
abbrev pub most_joined : ℕ
most_joined = 131072

-- the changes that come of others where runs of neighbours become one each, one run after another,
-- and all these runs speak of at most so many quads and names
pub data Joined (cs : List Delta) : ℕ → List Delta → Type 0 where
  none : {most : ℕ} → Joined cs most cs
  one : {some most : ℕ} (front run back : List Delta) (c : Delta) → Joined cs some (front ++ run ++ back) → some + size_of_all run ≤ most → Joined cs most (front ++ c ∷ back)
