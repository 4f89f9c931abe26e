-- Texts by their bytes.
use Rattle.std.specs.Prelude.{ℕ, Bool, ◌||◌, nat_lt, nat_le, List}
use denote.Ref.{Bor}

abbrev pub pair_of : Bor (List ℕ) × Bor (List ℕ) → List ℕ × List ℕ
pair_of p = (p.0.now, p.1.now)

-- whether a character begins with a byte
abbrev pub is_first : ℕ → Bool
is_first c = nat_lt c 128 || nat_le 192 c
