-- The order of terms (RDF 1.1 Concepts, section 3): IRIs, then literals, then blank nodes as
-- written, then made ones. A text goes by its UTF-8 bytes, which is the order of its characters,
-- and no language tag is before any.
use Rattle.std.specs.Prelude.{ℕ, Bool, List, ◌==◌}
use Rattle.std.specs.declared.cmp.Ordering.{Ordering}
use Rattle.std.specs.declared.cmp.Ordering.TheVariants.{Equal}
use Rattle.std.specs.Ordering.{ordering_then, nat_cmp}
use Rattle.std.specs.Option.{option_cmp}
use Rattle.std.specs.Cmp.Lexicographic.{slice_cmp}
use Rattle.terms.specs.Literal.{LiteralValue}
use Rattle.terms.specs.declared.term.Term.{Term}
use Rattle.terms.specs.declared.term.Term.TheVariants.{Iri, Literal, Blank, Made}

abbrev pub text_cmp : List ℕ → List ℕ → Ordering
text_cmp = slice_cmp nat_cmp

-- by lexical form, datatype and language tag
abbrev pub literal_order : LiteralValue → LiteralValue → Ordering
literal_order a b = ordering_then (text_cmp a.lexical b.lexical) (ordering_then (text_cmp a.datatype b.datatype) (option_cmp text_cmp a.tag b.tag))

abbrev pub kind : Term → ℕ
kind (Iri i) = 0
kind (Literal l) = 1
kind (Blank b) = 2
kind (Made r o l s) = 3

-- the order of two terms of one kind
abbrev pub within_kind : Term → Term → Ordering
within_kind (Iri a) (Iri b) = text_cmp a b
within_kind (Literal a) (Literal b) = literal_order a b
within_kind (Blank a) (Blank b) = text_cmp a b
within_kind (Made r o l s) (Made r' o' l' s') = ordering_then (nat_cmp r r') (ordering_then (nat_cmp o o') (ordering_then (nat_cmp l l') (nat_cmp s s')))
within_kind a b = Equal

abbrev pub term_order : Term → Term → Ordering
term_order a b = ordering_then (nat_cmp (kind a) (kind b)) (within_kind a b)

abbrev pub is_iri : Term → Bool
is_iri t = kind t == 0

abbrev pub is_literal : Term → Bool
is_literal t = kind t == 1
