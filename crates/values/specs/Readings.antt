-- What a term is read as where an operator asks for its value (SPARQL 1.1 Query, 17.1 and 17.2).
-- What ill-formed literals, integers that do not fit and tagged literals are is this project's.
use Rattle.std.specs.Prelude.{ℕ, Bool, true, false, not, ◌&&◌, ◌||◌, if◌then◌else◌, ◌-◌, ◌==◌, nat_le, List, [], ◌∷◌, Option, Some, None, ℤ, pos, neg_ℤ, int_lt, codes, map, ◌^◌}
use Rattle.std.specs.Ordering.{eq_by_cmp}
use Rattle.std.specs.List.{list_all}
use Rattle.std.specs.Int.Digits.{number_from_digits}
use Rattle.terms.specs.Literal.{LiteralValue}
use Rattle.terms.specs.Vocabulary.{xsd_string, xsd_integer, xsd_boolean}
use Rattle.terms.specs.Term.{text_cmp}
use Rattle.terms.specs.declared.term.Term.{Term}
use Rattle.terms.specs.declared.term.Term.TheVariants as term

pub data Reading : Type 0 where
  Number : (value : ℤ) → Reading
  -- an integer's form that does not fit
  TooLarge : Reading
  Text : (text : List ℕ) → Reading
  Tagged : (text tag : List ℕ) → Reading
  Truth : (so : Bool) → Reading
  IllFormed : Reading
  Other : Reading

abbrev pub is_text : List ℕ → List ℕ → Bool
is_text a b = eq_by_cmp text_cmp a b

abbrev pub is_digit : ℕ → Bool
is_digit c = nat_le 48 c && nat_le c 57

-- a number of 64 signed bits
abbrev pub fits_64 : ℤ → Bool
fits_64 z = not (int_lt z (neg_ℤ (pos (2 ^ 63)))) && int_lt z (pos (2 ^ 63))

abbrev pub bounded : ℤ → Reading
bounded z = if fits_64 z then Number z else TooLarge

-- one or more digits, with this sign
abbrev pub digits_read : (ℤ → ℤ) → List ℕ → Reading
digits_read sign [] = IllFormed
digits_read sign (c ∷ cs) =
    if list_all is_digit (c ∷ cs) then bounded (sign (pos (number_from_digits 10 (map (λ d. d - 48) (c ∷ cs))))) else IllFormed

-- an optional sign, and digits
abbrev pub integer_read : List ℕ → Reading
integer_read [] = IllFormed
integer_read (c ∷ cs) =
    if c == 43 then digits_read (λ z. z) cs else if c == 45 then digits_read neg_ℤ cs else digits_read (λ z. z) (c ∷ cs)

abbrev pub boolean_read : List ℕ → Reading
boolean_read t =
    if is_text t (codes "true") || is_text t (codes "1") then Truth true
    else if is_text t (codes "false") || is_text t (codes "0") then Truth false
    else IllFormed

-- a lexical form of a datatype
abbrev pub typed_read : (lexical datatype : List ℕ) → Reading
typed_read lexical datatype =
    if is_text datatype xsd_string then Text lexical
    else if is_text datatype xsd_integer then integer_read lexical
    else if is_text datatype xsd_boolean then boolean_read lexical
    else Other

abbrev pub tagged_read : (lexical datatype : List ℕ) → Option (List ℕ) → Reading
tagged_read lexical datatype (Some tag) = Tagged lexical tag
tagged_read lexical datatype None = typed_read lexical datatype

abbrev pub literal_read : LiteralValue → Reading
literal_read l = tagged_read l.lexical l.datatype l.tag

abbrev pub read_as : Term → Reading
read_as (term.Iri i) = Other
read_as (term.Literal l) = literal_read l
read_as (term.Blank b) = Other
read_as (term.Made r o l s) = Other
