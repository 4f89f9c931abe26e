-- What a term feeds a hasher.
use Rattle.std.specs.Prelude.{◌≡◌, true, ℕ, List, [], ◌∷◌, ◌++◌, IsTrue}
use Rattle.std.proofs.Common.{ap}
use Rattle.std.specs.Option.{option_to_list}
use Rattle.std.specs.Hash as fed
use Rattle.std.specs.Ordering.{eq_by_cmp}
use Rattle.std.specs.Cmp.{Equal-is}
use Rattle.terms.specs.declared.term.Term.{Term}
use Rattle.terms.specs.declared.term.Term.TheVariants.{Iri, Literal, Blank, Made}
use Rattle.terms.specs.Term.{term_order}
use Rattle.terms.specs.TermLaws.{term_exact}

abbrev pub hashed : Term → List (List ℕ)
hashed (Iri i) = i ∷ []
hashed (Literal l) = l.lexical ∷ l.datatype ∷ option_to_list l.tag
hashed (Blank b) = b ∷ []
hashed (Made r o l s) = fed.u32 r ++ fed.u32 o ++ fed.u32 l ++ fed.u32 s

pub equal_terms : (a b : Term) → eq_by_cmp term_order a b ≡ true → a ≡ b
equal_terms a b e = term_exact a b ((Equal-is (term_order a b)).0 e)

-- a term feeds one thing
pub hashed_alike : (a b : Term) → IsTrue (eq_by_cmp term_order a b) → hashed a ≡ hashed b
hashed_alike a b e = ap hashed (equal_terms a b e)
