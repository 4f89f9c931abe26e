-- Texts whose answers are made side by side.
use Rattle.std.specs.Borrow.{Bor}
use Rattle.std.specs.Prelude.{Result, Ok, Err, IfOk, MatchResult, map}
use Rattle.std.proofs.Common.{◌≡◌, ℕ, List, [], ◌∷◌, sym, subst}
use Rattle.std.specs.List.{AllZip}
use Rattle.rules.specs.Requests.{AreEach, none, more}
use Rattle.rules.specs.Cuts.{AreCut}

each_of_cut : {A : Type 0} (E : Type 0) (P : List ℕ → A → Type 0) (texts : List (List ℕ)) (cuts : List (Bor (List ℕ))) (cs : List A) → AreCut texts cuts
    → AllZip (λ (cut : Bor (List ℕ)) r. IfOk {E = E} r (P cut.now)) cuts (map Ok cs) → AreEach P texts cs
each_of_cut E P [] [] [] cut zipped = none
each_of_cut E P [] [] (c ∷ cs) cut zipped = absurd zipped
each_of_cut E P [] (x ∷ cuts) cs cut zipped = elim cut [ ]
each_of_cut E P (text ∷ texts) [] cs cut zipped = elim cut [ ]
each_of_cut E P (text ∷ texts) (x ∷ cuts) [] cut zipped = absurd zipped
each_of_cut E P (text ∷ texts) (x ∷ cuts) (c ∷ cs) (more is cut) zipped = more (subst (λ (t : List ℕ). P t c) is zipped.0) (each_of_cut E P texts cuts cs cut zipped.1)

-- where all were made, each text has its answer
pub answered_by : {A E V : Type 0} (P : List ℕ → A → Type 0) (items : V → List A) (Q : E → Type 0) (texts : List (List ℕ)) (cuts : List (Bor (List ℕ))) (made : List (Result A E)) (r : Result V E) → AreCut texts cuts
    → AllZip (λ (cut : Bor (List ℕ)) r. IfOk r (P cut.now)) cuts made → MatchResult r (λ v. (cs : List A) × (made ≡ map Ok cs) × (items v ≡ cs)) Q → IfOk r (λ v. AreEach P texts (items v))
answered_by P items Q texts cuts made (Err e) cut zipped h = tt
answered_by {A = A} {E = E} P items Q texts cuts made (Ok v) cut zipped h =
    subst (λ (cs : List A). AreEach P texts cs) (sym h.2) (each_of_cut E P texts cuts h.0 cut (subst (λ (rs : List (Result A E)). AllZip (λ (cut : Bor (List ℕ)) r. IfOk r (P cut.now)) cuts rs) h.1 zipped))
