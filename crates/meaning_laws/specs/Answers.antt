-- What answers keep, and how a run goes on.
use Rattle.std.specs.Prelude.{◌≡◌, ℕ, suc, List, [], ◌∷◌, ◌++◌, Some, slice_get}
use Rattle.std.specs.declared.cmp.Ordering.TheVariants.{Equal}
use Rattle.std.specs.Cmp.{IsTotalOrder}
use Rattle.datasets.specs.Dataset.{Dataset, IsDataset}
use Rattle.meaning.specs.Vocabulary.{Vocabulary}
use Rattle.meaning.specs.Run.{Request, answer_of, run_of_first}
use Rattle.meaning.specs.declared.reply.Reply.{Reply}

-- the order of terms is total and tells any two terms apart
pub record IsExactOrder {K : Type 0} (V : Vocabulary K) : Type 0 where
  pub total : IsTotalOrder V.order
  pub exact : (x y : K) → V.order x y ≡ Equal → x ≡ y

-- the answer to a request leaves a dataset where there was one
abbrev pub AnswersWithDatasets : Type 0 → Type 0
AnswersWithDatasets K =
    (V : Vocabulary K) (i : ℕ) (request : Request K) (d : Dataset K) → IsExactOrder V → IsDataset V.order d → IsDataset V.order (answer_of V i request d).0

-- one request more
abbrev pub with_next : {K : Type 0} → Dataset K × List Reply → Dataset K × Reply → Dataset K × List Reply
with_next before answer = (answer.0, before.1 ++ answer.1 ∷ [])

-- the run of one request more is the run so far and the answer to that request
abbrev pub GoesOnByOne : Type 0 → Type 0
GoesOnByOne K =
    (V : Vocabulary K) (n : ℕ) (requests : List (Request K)) (request : Request K) (d : Dataset K) → slice_get requests n ≡ Some request
    → run_of_first V (suc n) requests d ≡ with_next (run_of_first V n requests d) (answer_of V n request (run_of_first V n requests d).0)
