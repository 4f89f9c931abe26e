-- Names and literals (SPARQL 1.1 Query, 19.8, productions 129, 130, 134 and 136). `ReadsX ts x
-- rest`: the production reads x at the front of the tokens ts, and rest follows.
use Rattle.std.specs.Prelude.{ℕ, ◌≡◌, true, false, List, ◌∷◌, codes}
use Rattle.lexer.specs.declared.token.Token.{Token}
use Rattle.lexer.specs.declared.token.Token.TheVariants as token
use Rattle.lexer.specs.declared.token.Sign.TheVariants as signs
use Rattle.syntax_trees.specs.declared.tree.Name.{Name}
use Rattle.syntax_trees.specs.declared.tree.Name.TheVariants as name
use Rattle.syntax_trees.specs.declared.tree.Literal.{Literal}
use Rattle.syntax_trees.specs.declared.tree.Literal.TheVariants as literal
use Rattle.productions.specs.Keywords.{is_keyword}

-- Iri = IRI | prefixed name
pub data ReadsName : List Token → Name → List Token → Type 0 where
  iri : {i : List ℕ} {rest : List Token} → ReadsName (token.Iri i ∷ rest) (name.Iri i) rest
  prefixed : {p l : List ℕ} {rest : List Token} → ReadsName (token.Name p l ∷ rest) (name.Prefixed p l) rest

-- neither a tag nor `^^` follows
abbrev pub NoSuffix : List Token → Type 0
NoSuffix (token.Tag t ∷ ts) = ⊥
NoSuffix (token.Sign signs.Carets ∷ ts) = ⊥
NoSuffix ts = Unit {0}

-- Literal = string [ tag | '^^' Iri ] | integer | 'true' | 'false'. A string takes the tag or the
-- datatype that follows it: no other production begins with one.
pub data ReadsLiteral : List Token → Literal → List Token → Type 0 where
  plain : {s : List ℕ} {rest : List Token} → NoSuffix rest → ReadsLiteral (token.Text s ∷ rest) (literal.Plain s) rest
  tagged : {s t : List ℕ} {rest : List Token} → ReadsLiteral (token.Text s ∷ token.Tag t ∷ rest) (literal.Tagged s t) rest
  typed : {s : List ℕ} {ts rest : List Token} {d : Name} → ReadsName ts d rest → ReadsLiteral (token.Text s ∷ token.Sign signs.Carets ∷ ts) (literal.Typed s d) rest
  integer : {n : List ℕ} {rest : List Token} → ReadsLiteral (token.Integer n ∷ rest) (literal.Integer n) rest
  is_true : {w : List ℕ} {rest : List Token} → is_keyword w (codes "true") ≡ true → ReadsLiteral (token.Word w ∷ rest) (literal.Boolean true) rest
  is_false : {w : List ℕ} {rest : List Token} → is_keyword w (codes "false") ≡ true → ReadsLiteral (token.Word w ∷ rest) (literal.Boolean false) rest
