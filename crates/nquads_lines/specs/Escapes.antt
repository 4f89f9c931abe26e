-- Strings and IRIs with their escapes undone (RDF 1.1 N-Quads, productions 8 to 10 and 153s). `XAt
-- text x rest`: x stands at the front, and rest follows.
use Rattle.std.specs.Prelude.{ℕ, ◌≡◌, ◌==◌, ◌||◌, ◌+◌, ◌*◌, not, Bool, true, List, [], ◌∷◌, ◌++◌, length, Some}
use Rattle.std.specs.List.{list_all}
use Rattle.std.specs.Char.{encode_utf8, IsScalar, digit_value, is_ascii_hexdigit}
use Rattle.iris.specs.Iri.{is_iri_byte, IsIri}
use Rattle.iris.specs.Forms.{short_escape}

-- the number that hexadecimal digits spell, after those that spell n
abbrev pub hex_value : ℕ → List ℕ → ℕ
hex_value n [] = n
hex_value n (b ∷ bs) = hex_value (16 * n + digit_value b) bs

-- `\u` with four and `\U` with eight hexadecimal digits, which name a Unicode scalar value
pub data CodeAt : List ℕ → ℕ → List ℕ → Type 0 where
  small : (hex : List ℕ) {rest : List ℕ} → length hex ≡ 4 → list_all is_ascii_hexdigit hex ≡ true → IsScalar (hex_value 0 hex) → CodeAt (92 ∷ 117 ∷ (hex ++ rest)) (hex_value 0 hex) rest
  large : (hex : List ℕ) {rest : List ℕ} → length hex ≡ 8 → list_all is_ascii_hexdigit hex ≡ true → IsScalar (hex_value 0 hex) → CodeAt (92 ∷ 85 ∷ (hex ++ rest)) (hex_value 0 hex) rest

-- no raw quote, backslash, LF or CR
abbrev pub is_plain : ℕ → Bool
is_plain b = not ((b == 34) || (b == 92) || (b == 10) || (b == 13))

-- what stands between two quotes, up to the closing one
pub data StringAt : List ℕ → List ℕ → List ℕ → Type 0 where
  close : {rest : List ℕ} → StringAt (34 ∷ rest) [] rest
  plain : {b : ℕ} {text value rest : List ℕ} → is_plain b ≡ true → StringAt text value rest → StringAt (b ∷ text) (b ∷ value) rest
  short : {b c : ℕ} {text value rest : List ℕ} → short_escape b ≡ Some c → StringAt text value rest → StringAt (92 ∷ b ∷ text) (c ∷ value) rest
  code : {c : ℕ} {text after value rest : List ℕ} → CodeAt text c after → StringAt after value rest → StringAt text (encode_utf8 c ++ value) rest

-- what stands between `<` and `>`
pub data IriTextAt : List ℕ → List ℕ → List ℕ → Type 0 where
  close : {rest : List ℕ} → IriTextAt (62 ∷ rest) [] rest
  plain : {b : ℕ} {text value rest : List ℕ} → is_iri_byte b ≡ true → IriTextAt text value rest → IriTextAt (b ∷ text) (b ∷ value) rest
  code : {c : ℕ} {text after value rest : List ℕ} → CodeAt text c after → IriTextAt after value rest → IriTextAt text (encode_utf8 c ++ value) rest

-- an IRI in angle brackets; that it is one is judged with its escapes undone
pub data IriAt : List ℕ → List ℕ → List ℕ → Type 0 where
  iri : {text i rest : List ℕ} → IriTextAt text i rest → IsIri i → IriAt (60 ∷ text) i rest
