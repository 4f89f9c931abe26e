-- Cutting a block from left to right.
use Rattle.std.specs.Prelude.{ℕ, ◌==◌, ◌&&◌, Bool, false, List, [], ◌∷◌, drop, if◌then◌else◌}

-- four dashes and an LF
abbrev pub begins_separator : List ℕ → Bool
begins_separator [] = false
begins_separator (a ∷ []) = false
begins_separator (a ∷ b ∷ []) = false
begins_separator (a ∷ b ∷ c ∷ []) = false
begins_separator (a ∷ b ∷ c ∷ d ∷ []) = false
begins_separator (a ∷ b ∷ c ∷ d ∷ e ∷ rest) = (a == 45) && (b == 45) && (c == 45) && (d == 45) && (e == 10)

-- the bytes before the first separator, at the start of a line or not
abbrev pub text_from : Bool → List ℕ → List ℕ
text_from starts [] = []
text_from starts (b ∷ bs) = if starts && begins_separator (b ∷ bs) then [] else b ∷ text_from (b == 10) bs

-- the separator and what follows it
abbrev pub rest_from : Bool → List ℕ → List ℕ
rest_from starts [] = []
rest_from starts (b ∷ bs) = if starts && begins_separator (b ∷ bs) then b ∷ bs else rest_from (b == 10) bs

abbrev pub after_separator : List ℕ → List ℕ
after_separator bs = if begins_separator bs then drop 5 bs else []
