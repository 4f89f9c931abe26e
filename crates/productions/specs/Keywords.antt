-- Keywords, read in any case (SPARQL 1.1 Query, 19.8, note 1).
use Rattle.std.specs.Prelude.{ℕ, ◌≡◌, Bool, true, List, ◌∷◌, map, bytes_eq, Option, Some, None, if◌then◌else◌}
use Rattle.std.specs.Char.{to_ascii_lowercase}
use Rattle.lexer.specs.declared.token.Token.{Token}
use Rattle.lexer.specs.declared.token.Token.TheVariants as token

abbrev pub is_keyword : List ℕ → List ℕ → Bool
is_keyword w k = bytes_eq (map to_ascii_lowercase w) (map to_ascii_lowercase k)

-- what follows a keyword
abbrev pub keyword_at : List ℕ → List Token → Option (List Token)
keyword_at k (token.Word w ∷ ts) = if is_keyword w k then Some ts else None
keyword_at k ts = None

-- the keyword k, in any case, and what follows it
pub data ReadsKeyword (k : List ℕ) : List Token → List Token → Type 0 where
  keyword : {w : List ℕ} {rest : List Token} → is_keyword w k ≡ true → ReadsKeyword k (token.Word w ∷ rest) rest
