-- The value of a filter expression (SPARQL 1.1 Query, 17.2 to 17.4). Nothing stands for an error.
use Rattle.std.specs.Prelude.{ℕ, Bool, true, false, not, ◌&&◌, ◌||◌, if◌then◌else◌, nat_lt, nat_le, nat_eq, List, [], ◌∷◌, count_by, Option, Some, None, option_and_then, option_map, ℤ, pos, ◌+ℤ◌, ◌-ℤ◌, ◌*ℤ◌, codes, is_some}
use Rattle.std.specs.declared.cmp.Ordering.{Ordering}
use Rattle.std.specs.Ordering.{is_eq, is_lt, is_le, is_gt, is_ge, int_cmp, bool_cmp, eq_by_cmp}
use Rattle.std.specs.List.{starts_with, ends_with}
use Rattle.std.specs.Fmt.{signed_decimal}
use Rattle.terms.specs.Vocabulary.{xsd_string, xsd_integer, xsd_boolean}
use Rattle.terms.specs.Term.{text_cmp, term_order, is_iri, is_literal}
use Rattle.terms.specs.declared.term.Term.{Term}
use Rattle.terms.specs.declared.term.Term.TheVariants as term
use Rattle.algebra.specs.declared.expression.OneOperator.{OneOperator}
use Rattle.algebra.specs.declared.expression.OneOperator.TheVariants as one
use Rattle.algebra.specs.declared.expression.TwoOperator.{TwoOperator}
use Rattle.algebra.specs.declared.expression.TwoOperator.TheVariants as two
use Rattle.algebra.specs.Expressions.{Expression, Constant, Variable, Bound, One, Two}
use Rattle.meaning.specs.Mapping.{Mapping, term_for}
use Rattle.values.specs.Readings.{Reading, Number, TooLarge, Text, Tagged, Truth, IllFormed, Other, is_text, fits_64, read_as}

-- ---- computed terms

abbrev pub typed : (lexical datatype : List ℕ) → Term
typed lexical datatype = term.Literal (record { lexical = lexical; datatype = datatype; tag = None })

abbrev pub plain : List ℕ → Term
plain text = typed text xsd_string

abbrev pub truth : Bool → Term
truth b = typed (if b then codes "true" else codes "false") xsd_boolean

abbrev pub integer : ℤ → Term
integer z = typed (signed_decimal z) xsd_integer

abbrev pub truth_value : Option Bool → Option Term
truth_value b = option_map truth b

-- ---- effective boolean values (17.2.2)

abbrev pub is_nonempty : List ℕ → Bool
is_nonempty [] = false
is_nonempty (c ∷ cs) = true

abbrev pub truth_of : Reading → Option Bool
truth_of (Number z) = Some (not (is_eq (int_cmp z (pos 0))))
truth_of TooLarge = None
truth_of (Text t) = Some (is_nonempty t)
truth_of (Tagged t tag) = Some (is_nonempty t)
truth_of (Truth b) = Some b
truth_of IllFormed = Some false
truth_of Other = None

-- the effective boolean value of a value
abbrev pub effective_of : Option Term → Option Bool
effective_of v = option_and_then (λ t. truth_of (read_as t)) v

-- ---- operators on truth (17.2): a true or a false side decides also beside an error

abbrev pub either_true : Option Bool → Option Bool → Option Bool
either_true (Some true) b = Some true
either_true a (Some true) = Some true
either_true (Some false) (Some false) = Some false
either_true a b = None

abbrev pub both_true : Option Bool → Option Bool → Option Bool
both_true (Some false) b = Some false
both_true a (Some false) = Some false
both_true (Some true) (Some true) = Some true
both_true a b = None

-- ---- comparisons (17.3)

-- the order of two integers, two strings or two booleans, by their values
abbrev pub value_order : Reading → Reading → Option Ordering
value_order (Number a) (Number b) = Some (int_cmp a b)
value_order (Text a) (Text b) = Some (text_cmp a b)
value_order (Truth a) (Truth b) = Some (bool_cmp a b)
value_order a b = None

abbrev pub is_same_term : Term → Term → Bool
is_same_term a b = eq_by_cmp term_order a b

-- equal as terms, or else unknown of two literals
abbrev pub same_or_unknown : Term → Term → Option Bool
same_or_unknown a b = if is_same_term a b then Some true else if is_literal a && is_literal b then None else Some false

abbrev pub decided : Term → Term → Option Ordering → Option Bool
decided a b (Some o) = Some (is_eq o)
decided a b None = same_or_unknown a b

abbrev pub is_equal : Term → Term → Option Bool
is_equal a b = decided a b (value_order (read_as a) (read_as b))

abbrev pub is_ordered : (Ordering → Bool) → Term → Term → Option Bool
is_ordered test a b = option_map test (value_order (read_as a) (read_as b))

-- ---- arithmetic and text (17.4.2 and 17.4.3)

abbrev pub if_fits : ℤ → Option Term
if_fits z = if fits_64 z then Some (integer z) else None

abbrev pub arithmetic : (ℤ → ℤ → ℤ) → Reading → Reading → Option Term
arithmetic f (Number a) (Number b) = if_fits (f a b)
arithmetic f a b = None

-- the two texts, where they may be compared
abbrev pub text_pair : Reading → Reading → Option (List ℕ × List ℕ)
text_pair (Text a) (Text b) = Some (a, b)
text_pair (Tagged a tag) (Text b) = Some (a, b)
text_pair (Tagged a tag) (Tagged b other) = if is_text tag other then Some (a, b) else None
text_pair a b = None

abbrev pub on_texts : (List ℕ → List ℕ → Bool) → Term → Term → Option Term
on_texts test a b = option_map (λ p. truth (test p.0 p.1)) (text_pair (read_as a) (read_as b))

abbrev pub occurs_in : List ℕ → List ℕ → Bool
occurs_in [] part = starts_with nat_eq [] part
occurs_in (c ∷ cs) part = starts_with nat_eq (c ∷ cs) part || occurs_in cs part

-- the characters of a text: its bytes but those that go on with a character
abbrev pub characters : List ℕ → ℕ
characters bytes = count_by (λ c. nat_lt c 128 || nat_le 192 c) bytes

abbrev pub text_length : Reading → Option Term
text_length (Text t) = Some (integer (pos (characters t)))
text_length (Tagged t tag) = Some (integer (pos (characters t)))
text_length r = None

abbrev pub text_of : Term → Option Term
text_of (term.Iri i) = Some (plain i)
text_of (term.Literal l) = Some (plain l.lexical)
text_of (term.Blank b) = None
text_of (term.Made r o l s) = None

abbrev pub tag_or_empty : Option (List ℕ) → List ℕ
tag_or_empty None = []
tag_or_empty (Some tag) = tag

abbrev pub language_of : Term → Option Term
language_of (term.Iri i) = None
language_of (term.Literal l) = Some (plain (tag_or_empty l.tag))
language_of (term.Blank b) = None
language_of (term.Made r o l s) = None

abbrev pub datatype_of : Term → Option Term
datatype_of (term.Iri i) = None
datatype_of (term.Literal l) = Some (term.Iri l.datatype)
datatype_of (term.Blank b) = None
datatype_of (term.Made r o l s) = None

-- ---- values

abbrev pub one_value : OneOperator → Term → Option Term
one_value one.Not t = truth_value (option_map not (effective_of (Some t)))
one_value one.IsIri t = Some (truth (is_iri t))
one_value one.IsBlank t = Some (truth (not (is_iri t || is_literal t)))
one_value one.IsLiteral t = Some (truth (is_literal t))
one_value one.Str t = text_of t
one_value one.Lang t = language_of t
one_value one.Datatype t = datatype_of t
one_value one.StrLen t = text_length (read_as t)

-- an error where a side is one
abbrev pub strict : (Term → Term → Option Term) → Option Term → Option Term → Option Term
strict f None b = None
strict f (Some a) None = None
strict f (Some a) (Some b) = f a b

abbrev pub two_value : TwoOperator → Option Term → Option Term → Option Term
two_value two.Or a b = truth_value (either_true (effective_of a) (effective_of b))
two_value two.And a b = truth_value (both_true (effective_of a) (effective_of b))
two_value two.Equal a b = strict (λ x y. truth_value (is_equal x y)) a b
two_value two.NotEqual a b = strict (λ x y. truth_value (option_map not (is_equal x y))) a b
two_value two.Less a b = strict (λ x y. truth_value (is_ordered is_lt x y)) a b
two_value two.LessEqual a b = strict (λ x y. truth_value (is_ordered is_le x y)) a b
two_value two.Greater a b = strict (λ x y. truth_value (is_ordered is_gt x y)) a b
two_value two.GreaterEqual a b = strict (λ x y. truth_value (is_ordered is_ge x y)) a b
two_value two.Plus a b = strict (λ x y. arithmetic ◌+ℤ◌ (read_as x) (read_as y)) a b
two_value two.Minus a b = strict (λ x y. arithmetic ◌-ℤ◌ (read_as x) (read_as y)) a b
two_value two.Times a b = strict (λ x y. arithmetic ◌*ℤ◌ (read_as x) (read_as y)) a b
two_value two.SameTerm a b = strict (λ x y. Some (truth (is_same_term x y))) a b
two_value two.StrStarts a b = strict (on_texts (starts_with nat_eq)) a b
two_value two.StrEnds a b = strict (on_texts (ends_with nat_eq)) a b
two_value two.Contains a b = strict (on_texts occurs_in) a b

-- the value of an expression under a mapping: an unbound variable is an error, but in BOUND
abbrev pub value_of : Expression Term → Mapping Term → Option Term
value_of (Constant t) m = Some t
value_of (Variable v) m = term_for m v
value_of (Bound v) m = Some (truth (is_some (term_for m v)))
value_of (One o e) m = option_and_then (one_value o) (value_of e m)
value_of (Two o e f) m = two_value o (value_of e m) (value_of f m)

abbrev pub is_true : Option Bool → Bool
is_true None = false
is_true (Some b) = b

-- whether a mapping passes a filter: its effective boolean value is true
abbrev pub passes : Expression Term → Mapping Term → Bool
passes e m = is_true (effective_of (value_of e m))
