-- Numbers of terms. A dictionary is a list of written terms that rises in their order; the number
-- of a term is its place.
use Rattle.std.specs.Prelude.{◌≡◌, Bool, true, not, ◌==◌, nat_lt, List, length, slice_index_or}
use Rattle.std.specs.List.{list_all}
use Rattle.std.specs.List.Sorted.{IsStrictlySortedBy}
use Rattle.terms.specs.Term.{kind, term_order, is_iri, is_literal}
use Rattle.terms.specs.declared.term.Term.{Term}
use Rattle.terms.specs.declared.term.Term.TheVariants as term
use Rattle.datasets.specs.declared.id.Id.{Id}
use Rattle.datasets.specs.declared.id.Id.TheVariants.{Known, Made}
use Rattle.datasets.specs.Id.{id_order}
use Rattle.meaning.specs.Vocabulary.{Vocabulary}
use Rattle.meaning_laws.specs.Renaming.{renamed_expression, renamed_mapping}
use Rattle.values.specs.Values.{passes}

-- no node that a request made
abbrev pub is_written : Term → Bool
is_written t = not (kind t == 3)

pub record IsDictionary (terms : List Term) : Type 0 where
  pub rises : IsStrictlySortedBy term_order terms
  pub written : list_all is_written terms ≡ true

-- the term of a number; a made node stands for itself
abbrev pub term_of : List Term → Id → Term
term_of terms (Known n) = slice_index_or terms n (term.Made 0 0 0 0)
term_of terms (Made request operation label rank) = term.Made request operation label rank

-- whether it is a number of the dictionary, or a made node
abbrev pub is_known : List Term → Id → Bool
is_known terms (Known n) = nat_lt n (length terms)
is_known terms (Made request operation label rank) = true

-- what the definitions need to know of terms, and of their numbers
abbrev pub written : Vocabulary Term
written = record { order = term_order; is_iri = is_iri; is_literal = is_literal; made = term.Made; passes = passes }

abbrev pub numbers : List Term → Vocabulary Id
numbers terms = record {
  order = id_order;
  is_iri = λ id. is_iri (term_of terms id);
  is_literal = λ id. is_literal (term_of terms id);
  made = Made;
  passes = λ e m. passes (renamed_expression (term_of terms) e) (renamed_mapping (term_of terms) m);
}
