-- What answered the reads of a run is about the same, so the run is sound there.
use Rattle.std.proofs.Common.{◌≡◌, ℕ, List, Some, refl, ap, sym, subst, ◌∙◌}
use Rattle.std.specs.Prelude.{slice_get, unwrap_or}
use Rattle.datasets.specs.declared.id.Id.{Id}
use Rattle.terms.specs.declared.term.Term.{Term}
use Rattle.dict.specs.Dictionary.{is_known, numbers}
use Rattle.meaning.specs.Run.{Request, answer_of}
use Rattle.reads.specs.declared.note.Note.{Note}
use Rattle.delta.specs.declared.finished.Finished.{Finished}
use Rattle.delta.specs.Sound.{IsSoundFor}
use Rattle.reads.specs.Asking.{Asked}
use Rattle.asking.proofs.Notes.{asked_all}
use Rattle.book.specs.Run.{Run}
use Rattle.steps_again.specs.Runs.{Follows}

about_the_same : (p q : Run) (notes : List Note) → Asked (λ before r told after. Follows before after) p notes q → (q.terms ≡ p.terms) × (q.block ≡ p.block)
about_the_same p q notes asked =
    (asked_all (λ before r told after. Follows before after) (λ s. (s.terms ≡ p.terms) × (s.block ≡ p.block)) (λ r x. Unit {0})
    (λ s s' r x same follows. ((ap (λ (z : Run). z.terms) follows ∙ same.0, ap (λ (z : Run). z.block) follows ∙ same.1), tt)) notes p q (refl, refl) asked).0

pub sound_there : (p q : Run) (notes : List Note) (place : ℕ) (request : Request Id) (terms : List Term) (run : Finished)
    → Asked (λ before r told after. Follows before after) p notes q → terms ≡ p.terms → slice_get p.block place ≡ Some request
    → IsSoundFor (is_known terms) (answer_of (numbers terms) place request) run
    → (r : Request Id) → slice_get q.block place ≡ Some r → IsSoundFor (is_known q.terms) (answer_of (numbers q.terms) place r) run
sound_there p q notes place request terms run asked of_terms is sound r there =
    let same = about_the_same p q notes asked in
    let one : request ≡ r = ap (λ o. unwrap_or o request) (sym is ∙ sym (ap (λ b. slice_get b place) same.1) ∙ there) in
    subst (λ x. IsSoundFor (is_known q.terms) (answer_of (numbers q.terms) place x) run) one
    (subst (λ ts. IsSoundFor (is_known ts) (answer_of (numbers ts) place request) run) (of_terms ∙ sym same.0) sound)
