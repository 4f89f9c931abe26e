-- Whether two terms are one, by their parts.
use Rattle.std.proofs.Common.{◌≡◌, ℤ, List, ℕ, [], ◌∷◌, sym, ap, ◌∙◌}
use Rattle.std.specs.Ordering.{is_eq, int_cmp}
use Rattle.std.specs.Int.RustNames.{FitsSigned}
use Rattle.std.specs.Fmt.{signed_decimal}
use Rattle.std.specs.Cmp.{tied_itself, both_ways, Equal-is}
use Rattle.std.proofs.lemmas.Cmp.{int_cmp_total}
use Rattle.std.proofs.lemmas.Map.Lookups.{exact_signed}
use mir.Syntax.{w64}
use Rattle.terms.specs.Term.{term_order}
use Rattle.terms.specs.TermLaws.{term_total, term_exact}
use Rattle.terms.specs.declared.term.Term.{Term}
use Rattle.terms.specs.declared.term.Term.TheVariants as term
use Rattle.values.specs.Readings.{Number, integer_read}
use Rattle.values.specs.Values.{integer, is_same_term}
use Rattle.expr.proofs.NumeralLaws.{integer_read_of}

lexical_of : Term → List ℕ
lexical_of (term.Iri i) = i
lexical_of (term.Literal l) = l.lexical
lexical_of (term.Blank b) = b
lexical_of (term.Made r o l s) = []

same_integer : (a b : ℤ) → FitsSigned w64 a → FitsSigned w64 b → integer a ≡ integer b → a ≡ b
unfolding lexical_of
same_integer a b fa fb e =
    let digits : signed_decimal a ≡ signed_decimal b = ap lexical_of e in
    let numbers : Number a ≡ Number b = integer_read_of a fa ∙ ap integer_read digits ∙ sym (integer_read_of b fb) in
    cc

pub integers_same : (a b : ℤ) → FitsSigned w64 a → FitsSigned w64 b → is_eq (int_cmp a b) ≡ is_same_term (integer a) (integer b)
integers_same a b fa fb =
    both_ways (is_eq (int_cmp a b)) (is_same_term (integer a) (integer b))
    (λ h. let e : a ≡ b = exact_signed a b ((Equal-is (int_cmp a b)).0 h) in
    ap (λ z. is_same_term (integer a) (integer z)) (sym e) ∙ ap is_eq (tied_itself term_total (integer a)))
    (λ h. let e : a ≡ b = same_integer a b fa fb (term_exact (integer a) (integer b) ((Equal-is (term_order (integer a) (integer b))).0 h)) in
    ap (λ z. is_eq (int_cmp a z)) (sym e) ∙ ap is_eq (tied_itself int_cmp_total a))
