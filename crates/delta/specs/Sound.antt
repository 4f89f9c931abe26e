-- When a finished run of a request is sound: what it read determines what it must make of a
-- dataset.
use Rattle.std.specs.Prelude.{◌≡◌, Bool, true}
use Rattle.datasets.specs.declared.id.Id.{Id}
use Rattle.meaning.specs.declared.reply.Reply as request
use Rattle.meaning_laws.specs.Renaming.{dataset_known}
use Rattle.reads.specs.Reads.{View, applied, IsDataset}
use Rattle.reads.specs.Runs.{Agrees}
use Rattle.delta.specs.declared.finished.Finished.{Finished}

-- a dataset whose terms are all known
pub record IsDatasetOf (is_known : Id → Bool) (d : View) : Type 0 where
  pub set : IsDataset d
  pub known : dataset_known is_known d ≡ true

-- for every dataset of known terms that its transcript agrees with, a finished run has the dataset
-- and the reply of the request's answer
unfoldable pub IsSoundFor : (Id → Bool) → (View → View × request.Reply) → Finished → Type 0
IsSoundFor known answer finished =
    (d : View) → IsDatasetOf known d → Agrees finished.transcript d
    → (applied finished.delta d ≡ (answer d).0) × (finished.reply ≡ (answer d).1)
