-- Reading variables, names and literals from left to right.
use Rattle.std.specs.Prelude.{ℕ, true, false, List, ◌∷◌, Some, None, codes, if◌then◌else◌}
use Rattle.std.specs.Option.{option_map_or}
use Rattle.iris.specs.Bracketed.{◌>>=◌}
use Rattle.lexer.specs.declared.token.Token.TheVariants as token
use Rattle.lexer.specs.declared.token.Sign.TheVariants as signs
use Rattle.syntax_trees.specs.declared.tree.Name.{Name}
use Rattle.syntax_trees.specs.declared.tree.Name.TheVariants as name
use Rattle.syntax_trees.specs.declared.tree.Literal.{Literal}
use Rattle.syntax_trees.specs.declared.tree.Literal.TheVariants as literal
use Rattle.productions.specs.Signs.{sign_at}
use Rattle.productions.specs.Keywords.{is_keyword}
use Rattle.productions.specs.Steps.{Reader}

abbrev pub variable_at : Reader (List ℕ)
variable_at (token.Variable v ∷ ts) = Some (v, ts)
variable_at ts = None

abbrev pub name_at : Reader Name
name_at (token.Iri i ∷ ts) = Some (name.Iri i, ts)
name_at (token.Name p l ∷ ts) = Some (name.Prefixed p l, ts)
name_at ts = None

abbrev pub tag_at : Reader (List ℕ)
tag_at (token.Tag t ∷ ts) = Some (t, ts)
tag_at ts = None

-- a datatype, behind a string and `^^`
unfoldable pub typed_at : List ℕ → Reader Literal
typed_at s ts = do
  d ← name_at ts
  Some (literal.Typed s d.0, d.1)

-- what may follow a string
unfoldable pub text_at : List ℕ → Reader Literal
text_at s ts = option_map_or (λ t. Some (literal.Tagged s t.0, t.1)) (tag_at ts) (option_map_or (typed_at s) (sign_at signs.Carets ts) (Some (literal.Plain s, ts)))

abbrev pub literal_at : Reader Literal
literal_at (token.Text s ∷ ts) = text_at s ts
literal_at (token.Integer n ∷ ts) = Some (literal.Integer n, ts)
literal_at (token.Word w ∷ ts) = if is_keyword w (codes "true") then Some (literal.Boolean true, ts) else if is_keyword w (codes "false") then Some (literal.Boolean false, ts) else None
literal_at ts = None
