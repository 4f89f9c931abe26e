-- A run of requests that bring terms in their forms keeps a dataset well-formed.
use Rattle.std.proofs.Common.{◌≡◌, ℕ, ◌+◌, ◌≤◌, ◌^◌, true, ◌&&◌, List, [], ◌∷◌, length, Option, Some, None, Ok, Err, unwrap_or, refl, ap, subst}
use Rattle.std.specs.Prelude.{not, IfSome}
use Rattle.std.specs.List.{AllByRecursion}
use Rattle.std.specs.Option.{ForSome}
use Rattle.std.proofs.lemmas.Bool.{false≢true, and_parts}
use Rattle.std.proofs.lemmas.List.Elements.{All-from_recursion, recursion_from_All}
use Rattle.sets.proofs.Every.{all_weaker}
use Rattle.datasets.specs.Dataset.{Dataset, IsDataset}
use Rattle.terms.specs.declared.term.Term.{Term}
use Rattle.terms.specs.declared.term.Term.TheVariants.{Iri, Literal, Blank, Made}
use Rattle.terms.specs.Term.{term_order, is_iri, is_literal}
use Rattle.terms.specs.TermLaws.{term_total, term_exact}
use Rattle.meaning.specs.Template.{is_legal}
use Rattle.meaning.specs.Run.{Request, answer_of, run_from, run}
use Rattle.meaning_laws.specs.Answers.{IsExactOrder, AnswersWithDatasets}
use Rattle.dict.specs.Dictionary.{written}
use Rattle.nquads_laws.specs.WellFormed.{IsTerm, IsIriTerm, IsSubject, IsQuad, IsWellFormed}
use Rattle.nquads_laws.proofs.LineTexts.{subject_is_term}
use Rattle.translation_laws.specs.Formed.{IsFormedRequest}
use Rattle.translation_laws.proofs.KeptLaws.{IsKept, IsBrought, run_kept}

-- ---- kinds of terms

iri_is_term : (t : Term) → IsIriTerm t → IsTerm t
iri_is_term (Iri i) h = h
iri_is_term (Literal l) h = absurd h
iri_is_term (Blank b) h = absurd h
iri_is_term (Made r o l s) h = absurd h

as_iri : (t : Term) → IsTerm t → is_iri t ≡ true → IsIriTerm t
as_iri (Iri i) h e = h
as_iri (Literal l) h e = absurd (false≢true e)
as_iri (Blank b) h e = absurd (false≢true e)
as_iri (Made r o l s) h e = absurd (false≢true e)

as_subject : (t : Term) → IsTerm t → not (is_literal t) ≡ true → IsSubject t
as_subject (Iri i) h e = h
as_subject (Literal l) h e = absurd (false≢true e)
as_subject (Blank b) h e = h
as_subject (Made r o l s) h e = h

for_some : {A : Type 0} (P : A → Type 0) (o : Option A) → IfSome o P → ForSome o P
for_some P None h = λ x e. absurd cc
for_some P (Some y) h = λ x e. subst P (ap (λ z. unwrap_or z y) e) h

if_some : {A : Type 0} (P : A → Type 0) (o : Option A) → ForSome o P → IfSome o P
if_some P None h = tt
if_some P (Some y) h = h y refl

-- ---- what a run keeps

legal_formed : (s p o : Term) (g : Option Term) → IsTerm s → IsTerm p → IsTerm o → IfSome g IsTerm → is_legal written s p g ≡ true
    → IsQuad (record { subject = s; predicate = p; object = o; graph = g })
legal_formed s p o None hs hp ho hg e =
    let parts = and_parts (not (is_literal s)) (is_iri p) e in
    record { subject = as_subject s hs parts.0; predicate = as_iri p hp parts.1; object = ho; graph = for_some IsIriTerm None tt }
legal_formed s p o (Some g) hs hp ho hg e =
    let parts = and_parts (not (is_literal s)) (is_iri p && is_iri g) e in
    let later = and_parts (is_iri p) (is_iri g) parts.1 in
    record { subject = as_subject s hs parts.0; predicate = as_iri p hp later.0; object = ho; graph = for_some IsIriTerm (Some g) (as_iri g hg later.1) }

formed : IsKept IsTerm IsIriTerm IsQuad
formed = record {
  name = iri_is_term;
  made = λ r o l s numbers. numbers;
  quad = λ q h. (subject_is_term q.subject h.subject, iri_is_term q.predicate h.predicate, h.object, if_some IsIriTerm q.graph h.graph);
  legal = legal_formed;
  moved = λ g q h hg. record { subject = h.subject; predicate = h.predicate; object = h.object; graph = for_some IsIriTerm g hg };
}

exact : IsExactOrder written
exact = record { total = term_total; exact = term_exact }

-- the same request is formed by both names
as_brought : (r : Request Term) → IsFormedRequest r → IsBrought IsTerm IsIriTerm IsQuad formed r
as_brought (Ok operations) h = h
as_brought (Err refusal) h = h

module _ (datasets : AnswersWithDatasets Term) where
  run_dataset : (i : ℕ) (requests : List (Request Term)) (d : Dataset Term) → IsDataset term_order d → IsDataset term_order (run_from written i requests d).0
  run_dataset i [] d h = h
  run_dataset i (r ∷ rs) d h = run_dataset (i + 1) rs (answer_of written i r d).0 (datasets written i r d exact h)

  pub run_well_formed : (requests : List (Request Term)) (d : Dataset Term) → length requests ≤ 2 ^ 32 → AllByRecursion IsFormedRequest requests → IsWellFormed d → IsWellFormed (run written requests d).0
  run_well_formed requests d small h w =
      let after = run_kept IsTerm IsIriTerm IsQuad formed requests d small (all_weaker IsFormedRequest (IsBrought IsTerm IsIriTerm IsQuad formed) as_brought requests h)
      (recursion_from_All IsQuad d.quads w.quads, recursion_from_All IsIriTerm d.names w.names) in
      record {
        quads = All-from_recursion IsQuad (run written requests d).0.quads after.0;
        names = All-from_recursion IsIriTerm (run written requests d).0.names after.1;
        dataset = run_dataset 0 requests d w.dataset;
      }
