-- The terms that their parts make up.
use Rattle.std.specs.Prelude.{ℕ, Bool, List, None, codes, if◌then◌else◌}
use Rattle.std.specs.Option.{option_copied}
use Rattle.terms.specs.Literal.{LiteralValue}
use Rattle.terms.specs.declared.term.Term.{Term}
use Rattle.terms.specs.declared.term.Term.TheVariants as term
use Rattle.terms.specs.Vocabulary.{xsd_integer}
use Rattle.values.specs.Values.{integer}
use Rattle.expr.specs.declared.parts.LiteralParts.{LiteralParts}
use Rattle.expr.specs.declared.parts.Parts.{Parts}
use Rattle.expr.specs.declared.parts.Parts.TheVariants as parts

abbrev pub literal_of : LiteralParts → LiteralValue
literal_of l = record { lexical = l.lexical.now; datatype = l.datatype.now; tag = option_copied l.tag }

abbrev pub whole : Parts → Term
whole (parts.Iri t) = term.Iri t.now
whole (parts.Literal l) = term.Literal (literal_of l)
whole (parts.Integer z) = integer z
whole (parts.Blank t) = term.Blank t.now
whole (parts.Made request op label rank) = term.Made request op label rank

-- a literal of xsd:integer
abbrev pub integer_literal : List ℕ → LiteralValue
integer_literal digits = record { lexical = digits; datatype = xsd_integer; tag = None }

abbrev pub truth_text : Bool → List ℕ
truth_text b = if b then codes "true" else codes "false"
