-- The texts of a block's requests where they stand in it.
use Rattle.std.specs.Borrow.{Bor}
use Rattle.std.specs.Prelude.{ℕ, ◌≡◌, List}
use Rattle.rules.specs.Requests.{AreEach}

-- each text as it stands in the block
abbrev pub IsCut : List ℕ → Bor (List ℕ) → Type 0
IsCut text cut = cut.now ≡ text

abbrev pub AreCut : List (List ℕ) → List (Bor (List ℕ)) → Type 0
AreCut = AreEach IsCut
