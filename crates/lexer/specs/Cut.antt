-- How a text is cut into tokens: white space and comments apart, and always the longest token.
-- (SPARQL 1.1 Query, 19.4 and 19.8: comments, white space, the longest match.)
use Rattle.std.specs.Prelude.{ℕ, ◌≡◌, ◌==◌, ◌||◌, ◌≤◌, not, Bool, true, false, List, [], ◌∷◌, ◌++◌, length}
use Rattle.std.specs.List.{list_all}
use Rattle.lexer.specs.declared.token.Token.{Token}
use Rattle.lexer.specs.Form.{IsBarred, IsToken}

-- CR and LF
abbrev pub is_line_end : ℕ → Bool
is_line_end b = (b == 13) || (b == 10)

-- space, tab, CR and LF
abbrev pub is_space : ℕ → Bool
is_space b = (b == 32) || (b == 9) || is_line_end b

abbrev pub is_inner : ℕ → Bool
is_inner b = not (is_line_end b)

-- the text is at its end, or at a line's end
abbrev pub AtLineEnd : List ℕ → Type 0
AtLineEnd [] = Unit {0}
AtLineEnd (b ∷ bs) = is_inner b ≡ false

-- the text is this token and a rest, no token is barred here, and none with which the text begins
-- takes more
pub record IsLongest (text front rest : List ℕ) (t : Token) : Type 0 where
  pub cut : text ≡ front ++ rest
  pub is : IsToken front rest t
  pub free : IsBarred text → ⊥
  pub most : (other after : List ℕ) (u : Token) → text ≡ other ++ after → IsToken other after u → length other ≤ length front

pub data Cuts : List ℕ → List Token → Type 0 where
  end : Cuts [] []
  space : {b : ℕ} {rest : List ℕ} {ts : List Token} → is_space b ≡ true → Cuts rest ts → Cuts (b ∷ rest) ts
  comment : {text rest : List ℕ} {ts : List Token} (inner : List ℕ) → text ≡ 35 ∷ (inner ++ rest) → list_all is_inner inner ≡ true → AtLineEnd rest → Cuts rest ts → Cuts text ts
  token : {text front rest : List ℕ} {t : Token} {ts : List Token} → IsLongest text front rest t → Cuts rest ts → Cuts text (t ∷ ts)
