-- The order of terms is total, and tells any two terms apart.
use Rattle.std.specs.Prelude.{◌≡◌, ℕ, List, [], ◌∷◌, Option, None, refl}
use Rattle.std.proofs.Common.{ap, sym, ◌∙◌, subst}
use Rattle.std.proofs.lemmas.Bool.{false≢true}
use Rattle.std.proofs.lemmas.Map.Lookups.{exact_unsigned}
use Rattle.std.specs.declared.cmp.Ordering.{Ordering}
use Rattle.std.specs.declared.cmp.Ordering.TheVariants.{Less, Equal, Greater}
use Rattle.std.specs.Ordering.{ordering_then, nat_cmp, is_eq}
use Rattle.std.specs.Option.{option_cmp}
use Rattle.std.specs.Cmp.{IsTotalOrder, nat_cmp_total, then_total, on_total}
use Rattle.std.specs.Cmp.Lexicographic.{lists_total, options_total}
use Rattle.datasets.specs.Id.{then_first, then_second, option_exact, list_exact}
use Rattle.terms.specs.Literal.{LiteralValue}
use Rattle.terms.specs.declared.term.Term.{Term}
use Rattle.terms.specs.declared.term.Term.TheVariants.{Iri, Literal, Blank, Made}
use Rattle.terms.specs.Term.{text_cmp, literal_order, kind, term_order}

pub text_total : IsTotalOrder text_cmp
text_total = lists_total nat_cmp_total

pub text_exact : (a b : List ℕ) → text_cmp a b ≡ Equal → a ≡ b
text_exact = list_exact nat_cmp exact_unsigned

-- ---- the parts of a term, in the order in which they are compared

first : Term → List ℕ
first (Iri i) = i
first (Literal l) = l.lexical
first (Blank b) = b
first (Made r o l s) = r ∷ o ∷ l ∷ s ∷ []

second : Term → List ℕ
second (Iri i) = []
second (Literal l) = l.datatype
second (Blank b) = []
second (Made r o l s) = []

third : Term → Option (List ℕ)
third (Iri i) = None
third (Literal l) = l.tag
third (Blank b) = None
third (Made r o l s) = None

by_parts : Term → Term → Ordering
by_parts a b =
    ordering_then (nat_cmp (kind a) (kind b))
    (ordering_then (text_cmp (first a) (first b)) (ordering_then (text_cmp (second a) (second b)) (option_cmp text_cmp (third a) (third b))))

then_equal : (a : Ordering) → ordering_then a Equal ≡ a
then_equal Less = refl
then_equal Equal = refl
then_equal Greater = refl

parts_agree : (a b : Term) → by_parts a b ≡ term_order a b
unfolding by_parts first second third
parts_agree (Iri a) (Iri b) = then_equal (text_cmp a b)
parts_agree (Iri a) (Literal b) = refl
parts_agree (Iri a) (Blank b) = refl
parts_agree (Iri a) (Made r o l s) = refl
parts_agree (Literal a) (Iri b) = refl
parts_agree (Literal a) (Literal b) = refl
parts_agree (Literal a) (Blank b) = refl
parts_agree (Literal a) (Made r o l s) = refl
parts_agree (Blank a) (Iri b) = refl
parts_agree (Blank a) (Literal b) = refl
parts_agree (Blank a) (Blank b) = then_equal (text_cmp a b)
parts_agree (Blank a) (Made r o l s) = refl
parts_agree (Made r o l s) (Iri b) = refl
parts_agree (Made r o l s) (Literal b) = refl
parts_agree (Made r o l s) (Blank b) = refl
parts_agree (Made r o l s) (Made r' o' l' s') =
    then_equal (text_cmp (r ∷ o ∷ l ∷ s ∷ []) (r' ∷ o' ∷ l' ∷ s' ∷ []))
    ∙ ap (λ x. ordering_then (nat_cmp r r') (ordering_then (nat_cmp o o') (ordering_then (nat_cmp l l') x))) (then_equal (nat_cmp s s'))

parts_total : IsTotalOrder by_parts
unfolding by_parts
parts_total =
    then_total (on_total kind nat_cmp_total)
    (then_total (on_total first text_total) (then_total (on_total second text_total) (on_total third (options_total text_total))))

pub term_total : IsTotalOrder term_order
term_total = subst IsTotalOrder (λ i a b. parts_agree a b i) parts_total

-- ---- any two terms are told apart

pub literal_exact : (a b : LiteralValue) → literal_order a b ≡ Equal → a ≡ b
literal_exact a b e =
    let rest = then_second (text_cmp a.lexical b.lexical) _ e in
    let p : a.lexical ≡ b.lexical = text_exact _ _ (then_first _ _ e) in
    let q : a.datatype ≡ b.datatype = text_exact _ _ (then_first _ _ rest) in
    let u : a.tag ≡ b.tag = option_exact text_cmp text_exact _ _ (then_second (text_cmp a.datatype b.datatype) _ rest) in
    λ i. record { lexical = p i; datatype = q i; tag = u i }

apart : {A : Type 0} (r : Ordering) → is_eq r ≡ is_eq Less → r ≡ Equal → A
apart r n e = absurd (false≢true (sym n ∙ ap is_eq e))

pub term_exact : (a b : Term) → term_order a b ≡ Equal → a ≡ b
term_exact (Iri a) (Iri b) e = ap Iri (text_exact a b e)
term_exact (Iri a) (Literal b) e = apart Less refl e
term_exact (Iri a) (Blank b) e = apart Less refl e
term_exact (Iri a) (Made r o l s) e = apart Less refl e
term_exact (Literal a) (Iri b) e = apart Greater refl e
term_exact (Literal a) (Literal b) e = ap Literal (literal_exact a b e)
term_exact (Literal a) (Blank b) e = apart Less refl e
term_exact (Literal a) (Made r o l s) e = apart Less refl e
term_exact (Blank a) (Iri b) e = apart Greater refl e
term_exact (Blank a) (Literal b) e = apart Greater refl e
term_exact (Blank a) (Blank b) e = ap Blank (text_exact a b e)
term_exact (Blank a) (Made r o l s) e = apart Less refl e
term_exact (Made r o l s) (Iri b) e = apart Greater refl e
term_exact (Made r o l s) (Literal b) e = apart Greater refl e
term_exact (Made r o l s) (Blank b) e = apart Greater refl e
term_exact (Made r o l s) (Made r' o' l' s') e =
    let e1 = then_second (nat_cmp r r') _ e in
    let e2 = then_second (nat_cmp o o') _ e1 in
    let p : r ≡ r' = exact_unsigned r r' (then_first _ _ e) in
    let q : o ≡ o' = exact_unsigned o o' (then_first _ _ e1) in
    let u : l ≡ l' = exact_unsigned l l' (then_first _ _ e2) in
    let v : s ≡ s' = exact_unsigned s s' (then_second (nat_cmp l l') _ e2) in
    λ i. Made (p i) (q i) (u i) (v i)
