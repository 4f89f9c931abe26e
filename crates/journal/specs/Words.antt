-- The words of a line, read from left to right.
use Rattle.std.specs.Prelude.{ℕ, ◌==◌, ◌&&◌, ◌+◌, ◌*◌, ◌-◌, ◌^◌, not, nat_lt, Bool, List, [], ◌∷◌, drop, Option, Some, None, if◌then◌else◌}
use Rattle.iris.specs.Iri.{is_digit}
use Rattle.iris.specs.Runs.{run_of, rest_of}
use Rattle.iris.specs.Bracketed.{◌>>=◌}

abbrev pub is_word_byte : ℕ → Bool
is_word_byte b = not (b == 32)

-- up to the first space, and what follows that
abbrev pub word : List ℕ → List ℕ
word text = run_of is_word_byte text

abbrev pub behind : List ℕ → List ℕ
behind text = drop 1 (rest_of is_word_byte text)

-- a number with one more digit, which fits 64 bits
abbrev pub with_digit : ℕ → ℕ → Option ℕ
with_digit n b = if is_digit b && nat_lt (10 * n + (b - 48)) (2 ^ 64) then Some (10 * n + (b - 48)) else None

abbrev pub number_from : ℕ → List ℕ → Option ℕ
number_from n [] = Some n
number_from n (b ∷ bs) = with_digit n b >>= λ m. number_from m bs

-- the number of the digits
unfoldable pub number_of : List ℕ → Option ℕ
number_of digits = number_from 0 digits

-- a number below a limit
abbrev pub number_below : ℕ → List ℕ → Option ℕ
number_below limit digits = number_of digits >>= λ n. if nat_lt n limit then Some n else None
