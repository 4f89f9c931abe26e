-- What a finished run makes of the dataset that answered it.
use Rattle.std.proofs.Common.{◌≡◌, ℕ, List, [], ◌∷◌, sym, ◌∙◌, subst}
use Rattle.std.specs.List.{AllByRecursion}
use Rattle.terms.specs.declared.term.Term.{Term}
use Rattle.datasets.specs.declared.id.Id.{Id}
use Rattle.dict.specs.Dictionary.{is_known, numbers}
use Rattle.meaning.specs.Run.{Request, answer_of}
use Rattle.reads.specs.Reads.{View, says, applied}
use Rattle.reads.specs.Runs.{Agrees}
use Rattle.delta.specs.Sound.{IsDatasetOf, IsSoundFor}
use Rattle.delta.specs.declared.finished.Finished.{Finished}
use Rattle.reads.specs.declared.note.Note.{Note}
use Rattle.update.specs.Executed.{Executed}

agrees : (notes : List Note) (d : View) → AllByRecursion (λ n. n.answer ≡ says n.read d) notes → Agrees notes d
agrees [] d h = tt
agrees (n ∷ ns) d h = (h.0, agrees ns d h.1)

pub answered : (e : Executed) (terms : List Term) (place : ℕ) (request : Request Id) (run : Finished) (d : View)
    → (e.terms ≡ terms) × (e.place ≡ place) × (e.request ≡ request) → IsSoundFor (is_known e.terms) (answer_of (numbers e.terms) e.place e.request) run
    → run ≡ e.finished → AllByRecursion (λ n. n.answer ≡ says n.read d) e.finished.transcript → IsDatasetOf (is_known terms) d
    → (applied run.delta d, run.reply) ≡ answer_of (numbers terms) place request d
unfolding IsSoundFor
answered e terms place request run d is sound same meets dataset =
    let agreed = agrees run.transcript d (subst (λ (f : Finished). AllByRecursion (λ n. n.answer ≡ says n.read d) f.transcript) (sym same) meets) in
    let made = sound d (subst (λ (ts : List Term). IsDatasetOf (is_known ts) d) (sym is.0) dataset) agreed in
    (λ t. (made.0 t, made.1 t)) ∙ (λ t. answer_of (numbers (is.0 t)) (is.1 t) (is.2 t) d)
