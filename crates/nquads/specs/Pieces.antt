-- A text in two pieces, of which the first ends with an LF.
use Rattle.std.specs.Prelude.{ℕ, ◌≡◌, List, [], ◌∷◌, ◌++◌}

abbrev pub ArePieces : List ℕ → List ℕ → List ℕ → Type 0
ArePieces text first rest = (front : List ℕ) × (first ≡ front ++ 10 ∷ []) × (text ≡ first ++ rest)
