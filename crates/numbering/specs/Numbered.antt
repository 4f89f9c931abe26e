-- A base and a block at numbers of terms.
use Rattle.std.specs.Prelude.{◌≡◌, ℕ, true, List, map}
use Rattle.std.specs.List.{list_all}
use Rattle.datasets.specs.Dataset.{Dataset, IsDataset}
use Rattle.datasets.specs.declared.id.Id.{Id}
use Rattle.terms.specs.Term.{term_order}
use Rattle.terms.specs.declared.term.Term.{Term}
use Rattle.meaning.specs.Run.{Request, run_of_first}
use Rattle.meaning_laws.specs.Renaming.{renamed, renamed_request, dataset_known, request_known}
use Rattle.store.specs.Base.{Base, IsBaseOf}
use Rattle.dict.specs.Dictionary.{term_of, is_known, written, numbers}

-- the base is of this dataset, and the requests stand for this block
pub record IsNumbered (d : Dataset Term) (block : List (Request Term)) (b : Base) (requests : List (Request Id)) : Type 0 where
  pub base : IsBaseOf d b
  pub block_is : map (renamed_request (term_of b.terms)) requests ≡ block
  pub block_known : list_all (request_known (is_known b.terms)) requests ≡ true

-- the run of the first n requests at numbers stands for that at terms, with the same replies
pub record IsCarried (d : Dataset Term) (block : List (Request Term)) (terms : List Term) (base : Dataset Id) (requests : List (Request Id)) (n : ℕ) : Type 0 where
  pub dataset_is : renamed (term_of terms) (run_of_first (numbers terms) n requests base).0 ≡ (run_of_first written n block d).0
  pub replies_are : (run_of_first (numbers terms) n requests base).1 ≡ (run_of_first written n block d).1
  pub known : dataset_known (is_known terms) (run_of_first (numbers terms) n requests base).0 ≡ true
  pub dataset : IsDataset term_order (run_of_first written n block d).0

abbrev pub CarriesBlock : Type 0
CarriesBlock =
    (d : Dataset Term) (block : List (Request Term)) (b : Base) (requests : List (Request Id)) (n : ℕ)
    → IsNumbered d block b requests → IsDataset term_order d → IsCarried d block b.terms b.dataset requests n
