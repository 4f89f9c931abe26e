-- The forms of tokens (SPARQL 1.1 Query, 19.8, terminals, in this profile).
use Rattle.std.specs.Prelude.{ℕ, ◌≡◌, ◌==◌, ◌&&◌, ◌||◌, Bool, true, false, List, [], ◌∷◌, ◌++◌, map, codes, IsUtf8}
use Rattle.std.specs.List.{list_all}
use Rattle.std.specs.Char.{to_ascii_lowercase}
use Rattle.iris.specs.Iri.{is_letter, is_digit, is_iri_byte, is_iri, IsIri}
use Rattle.iris.specs.Forms.{is_label, is_tag}
use Rattle.lexer.specs.declared.token.Token.{Token}
use Rattle.lexer.specs.declared.token.Token.TheVariants as token
use Rattle.lexer.specs.declared.token.Sign.{Sign}
use Rattle.lexer.specs.declared.token.Sign.TheVariants as signs
use Rattle.lexer.specs.Names.{IsPrefix, IsLocal, IsVariable, IsWord, AreDigits}
use Rattle.lexer.specs.Strings.{is_quote, Spells}

abbrev pub sign_text : Sign → List ℕ
sign_text signs.OpenBrace = codes "{"
sign_text signs.CloseBrace = codes "}"
sign_text signs.OpenParen = codes "("
sign_text signs.CloseParen = codes ")"
sign_text signs.Dot = codes "."
sign_text signs.Semicolon = codes ";"
sign_text signs.Comma = codes ","
sign_text signs.Carets = codes "^^"
sign_text signs.Equal = codes "="
sign_text signs.NotEqual = codes "!="
sign_text signs.Less = codes "<"
sign_text signs.Greater = codes ">"
sign_text signs.LessEqual = codes "<="
sign_text signs.GreaterEqual = codes ">="
sign_text signs.Ampersands = codes "&&"
sign_text signs.Bars = codes "||"
sign_text signs.Bang = codes "!"
sign_text signs.Plus = codes "+"
sign_text signs.Minus = codes "-"
sign_text signs.Star = codes "*"

-- `?` or `$`
abbrev pub is_variable_mark : ℕ → Bool
is_variable_mark b = (b == 63) || (b == 36)

-- a digit is first
abbrev pub begins_with_digit : List ℕ → Bool
begins_with_digit [] = false
begins_with_digit (b ∷ bs) = is_digit b

-- what may not follow an integer: a digit, a letter, `_`, or a full stop and a digit
abbrev pub continues_integer : List ℕ → Bool
continues_integer [] = false
continues_integer (b ∷ bs) = is_letter b || is_digit b || (b == 95) || ((b == 46) && begins_with_digit bs)

abbrev pub EndsInteger : List ℕ → Type 0
EndsInteger rest = continues_integer rest ≡ false

-- three quotes in a row, and `<`, bytes that an IRI may hold and `>` round what is no IRI: no token
-- begins here
pub data IsBarred : List ℕ → Type 0 where
  quotes : {q : ℕ} {rest : List ℕ} → is_quote q ≡ true → IsBarred (q ∷ q ∷ q ∷ rest)
  no_iri : (i rest : List ℕ) → list_all is_iri_byte i ≡ true → is_iri i ≡ false → IsBarred (60 ∷ (i ++ 62 ∷ rest))

-- the text is this token, where rest follows it
pub data IsToken : List ℕ → List ℕ → Token → Type 0 where
  iri : {i rest : List ℕ} → IsIri i → IsToken (60 ∷ (i ++ 62 ∷ [])) rest (token.Iri i)
  name : {p l rest : List ℕ} → IsPrefix p → IsLocal l → IsToken (p ++ 58 ∷ l) rest (token.Name p l)
  variable : {m : ℕ} {v rest : List ℕ} → is_variable_mark m ≡ true → IsVariable v → IsToken (m ∷ v) rest (token.Variable v)
  blank : {l rest : List ℕ} → is_label l ≡ true → IsToken (95 ∷ 58 ∷ l) rest (token.Blank l)
  string : {quote : ℕ} (written : List ℕ) {value rest : List ℕ} → is_quote quote ≡ true → Spells quote written value → IsUtf8 written
      → IsToken (quote ∷ (written ++ quote ∷ [])) rest (token.Text value)
  tag : {t rest : List ℕ} → is_tag (map to_ascii_lowercase t) ≡ true → IsToken (64 ∷ t) rest (token.Tag (map to_ascii_lowercase t))
  integer : {n rest : List ℕ} → AreDigits n → EndsInteger rest → IsToken n rest (token.Integer n)
  word : {w rest : List ℕ} → IsWord w → IsToken w rest (token.Word w)
  sign : {rest : List ℕ} (s : Sign) → IsToken (sign_text s) rest (token.Sign s)

-- a token's IRI is one, and so are its other parts
abbrev pub HasParts : Token → Type 0
HasParts (token.Iri i) = IsIri i
HasParts (token.Name p l) = IsLocal l
HasParts (token.Variable v) = Unit {0}
HasParts (token.Blank l) = is_label l ≡ true
HasParts (token.Text t) = IsUtf8 t
HasParts (token.Tag t) = is_tag t ≡ true
HasParts (token.Integer n) = AreDigits n
HasParts (token.Word w) = Unit {0}
HasParts (token.Sign s) = Unit {0}
