-- The functions that words name (SPARQL 1.1 Query, 19.8, production 121).
use Rattle.std.specs.Prelude.{ℕ, List, [], ◌∷◌, map, bytes_eq, Option, Some, None, codes, if◌then◌else◌}
use Rattle.std.specs.Char.{to_ascii_lowercase}
use Rattle.iris.specs.Bracketed.{◌>>=◌}
use Rattle.lexer.specs.declared.token.Token.{Token}
use Rattle.lexer.specs.declared.token.Token.TheVariants as token
use Rattle.syntax_trees.specs.declared.expression.One.{One}
use Rattle.syntax_trees.specs.declared.expression.One.TheVariants as one
use Rattle.syntax_trees.specs.declared.expression.Two.{Two}
use Rattle.syntax_trees.specs.declared.expression.Two.TheVariants as two
use Rattle.expressions.specs.declared.calls.Called.{Called}
use Rattle.expressions.specs.declared.calls.Called.TheVariants as called

abbrev pub one_name : One → List ℕ
one_name one.IsIri = codes "isIRI"
one_name one.IsBlank = codes "isBlank"
one_name one.IsLiteral = codes "isLiteral"
one_name one.Str = codes "STR"
one_name one.Lang = codes "LANG"
one_name one.Datatype = codes "DATATYPE"
one_name one.StrLen = codes "STRLEN"

abbrev pub two_name : Two → List ℕ
two_name two.SameTerm = codes "sameTerm"
two_name two.StrStarts = codes "STRSTARTS"
two_name two.StrEnds = codes "STRENDS"
two_name two.Contains = codes "CONTAINS"

abbrev pub called_name : Called → List ℕ
called_name called.Bound = codes "BOUND"
called_name (called.One f) = one_name f
called_name (called.Two f) = two_name f

-- ---- as they are read

-- the first of these that has this name, in lower case
abbrev pub first_called : List Called → List ℕ → Option Called
first_called [] w = None
first_called (c ∷ cs) w = if bytes_eq w (map to_ascii_lowercase (called_name c)) then Some c else first_called cs w

abbrev pub all_called : List Called
all_called = called.Bound ∷ called.One one.IsIri ∷ called.One one.IsBlank ∷ called.One one.IsLiteral ∷ called.One one.Str ∷ called.One one.Lang ∷ called.One one.Datatype ∷ called.One one.StrLen
    ∷ called.Two two.SameTerm ∷ called.Two two.StrStarts ∷ called.Two two.StrEnds ∷ called.Two two.Contains ∷ []

abbrev pub called_of : List ℕ → Option Called
called_of w = first_called all_called (map to_ascii_lowercase w)

abbrev pub called_at : List Token → Option (Called × List Token)
called_at (token.Word w ∷ ts) = called_of w >>= λ c. Some (c, ts)
called_at ts = None
