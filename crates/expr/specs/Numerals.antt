-- The parts of an integer's lexical form.
use Rattle.std.specs.Prelude.{ℕ, Bool, ◌==◌, ◌||◌, ◌&&◌, not, List, [], ◌∷◌, length, if◌then◌else◌, Option, Some, None, ℤ}
use Rattle.std.specs.List.{list_all}
use Rattle.values.specs.Readings.{Reading, Number, TooLarge, Text, Tagged, Truth, IllFormed, Other, is_digit}

abbrev pub without_sign : List ℕ → List ℕ
without_sign [] = []
without_sign (c ∷ cs) = if (c == 43) || (c == 45) then cs else c ∷ cs

-- one or more digits
abbrev pub is_numeral : List ℕ → Bool
is_numeral ds = not (length ds == 0) && list_all is_digit ds

-- two integers that have values
abbrev pub number_pair : Reading → Reading → Option (ℤ × ℤ)
number_pair (Number a) (Number b) = Some (a, b)
number_pair a b = None
