-- Strings between two quotes (SPARQL 1.1 Query, 19.8, productions 156, 157 and 160).
use Rattle.std.specs.Prelude.{ℕ, ◌≡◌, ◌==◌, ◌||◌, Bool, true, false, List, [], ◌∷◌, Some, unwrap_or, if◌then◌else◌}
use Rattle.iris.specs.Forms.{short_escape}

-- `"` and `'`
abbrev pub is_quote : ℕ → Bool
is_quote b = (b == 34) || (b == 39)

-- what may not stand in a string unescaped: its quote, a backslash, LF and CR
abbrev pub ends_plain : ℕ → ℕ → Bool
ends_plain quote b = (b == quote) || (b == 92) || (b == 10) || (b == 13)

-- what stands between two of these quotes, and what it spells
pub data Spells (quote : ℕ) : List ℕ → List ℕ → Type 0 where
  end : Spells quote [] []
  plain : {b : ℕ} {written value : List ℕ} → ends_plain quote b ≡ false → Spells quote written value → Spells quote (b ∷ written) (b ∷ value)
  short : {b c : ℕ} {written value : List ℕ} → short_escape b ≡ Some c → Spells quote written value → Spells quote (92 ∷ b ∷ written) (c ∷ value)

-- ---- the same, read without the quotes

-- each backslash begins an escape
pub data IsEscaped : List ℕ → Type 0 where
  end : IsEscaped []
  plain : {b : ℕ} {rest : List ℕ} → (b == 92) ≡ false → IsEscaped rest → IsEscaped (b ∷ rest)
  short : {b c : ℕ} {rest : List ℕ} → short_escape b ≡ Some c → IsEscaped rest → IsEscaped (92 ∷ b ∷ rest)

-- the escapes undone, where a backslash came before or didn't
abbrev pub unescaped_after : Bool → List ℕ → List ℕ
unescaped_after escaped [] = []
unescaped_after false (b ∷ bs) = if b == 92 then unescaped_after true bs else b ∷ unescaped_after false bs
unescaped_after true (b ∷ bs) = unwrap_or (short_escape b) b ∷ unescaped_after false bs

abbrev pub unescaped : List ℕ → List ℕ
unescaped bs = unescaped_after false bs
