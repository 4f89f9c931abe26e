-- Texts of terms that several threads make.
use Rattle.std.specs.Prelude.{Result, Ok, Err, IfOk, MatchResult, map}
use Rattle.std.specs.declared.alloc.AllocError.{AllocError}
use Rattle.std.proofs.Common.{◌≡◌, ℕ, List, [], ◌∷◌, refl, subst, ◌∙◌}
use Rattle.std.specs.List.{AllZip}
use Rattle.terms.specs.declared.term.Term.{Term}
use Rattle.terms.specs.Canonical.{term_text}
use Rattle.canonical_nquads.specs.Placed.{IsTextOf}

each_text : (tag : ℕ) (terms : List Term) (texts : List (List ℕ)) → AllZip (IsTextOf tag) terms (map Ok texts) → texts ≡ map (term_text tag) terms
each_text tag [] [] h = refl
each_text tag [] (x ∷ xs) h = absurd h
each_text tag (t ∷ ts) [] h = absurd h
each_text tag (t ∷ ts) (x ∷ xs) h = let rest = each_text tag ts xs h.1 in λ i. h.0 i ∷ rest i

-- where all are made, they are the terms' texts
pub texts_are : {V : Type 0} (items : V → List (List ℕ)) (Q : AllocError → Type 0) (tag : ℕ) (terms : List Term) (made : List (Result (List ℕ) AllocError)) (r : Result V AllocError)
    → AllZip (IsTextOf tag) terms made → MatchResult r (λ v. (texts : List (List ℕ)) × (made ≡ map Ok texts) × (items v ≡ texts)) Q
    → IfOk r (λ v. items v ≡ map (term_text tag) terms)
texts_are items Q tag terms made (Err e) zipped h = tt
texts_are items Q tag terms made (Ok v) zipped h =
    h.2 ∙ each_text tag terms h.0 (subst (λ (ms : List (Result (List ℕ) AllocError)). AllZip (IsTextOf tag) terms ms) h.1 zipped)
