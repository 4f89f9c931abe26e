-- A base: terms, their dataset at numbers, and the tag of its text.
use Rattle.std.specs.Prelude.{◌≡◌, ℕ, true, List}
use Rattle.datasets.specs.Dataset.{Dataset, IsDataset}
use Rattle.datasets.specs.Id.{id_order}
use Rattle.datasets.specs.declared.id.Id.{Id}
use Rattle.terms.specs.declared.term.Term.{Term}
use Rattle.meaning_laws.specs.Renaming.{renamed, dataset_known}
use Rattle.dict.specs.Dictionary.{IsDictionary, term_of, is_known}
use Rattle.canonical_nquads.specs.Tag.{IsTagOf}

pub record Base : Type 0 where
  pub terms : List Term
  pub dataset : Dataset Id
  pub tag : ℕ

-- its numbers stand for this dataset, and its tag is the dataset's
pub record IsBaseOf (d : Dataset Term) (b : Base) : Type 0 where
  pub dictionary : IsDictionary b.terms
  pub dataset_is : renamed (term_of b.terms) b.dataset ≡ d
  pub known : dataset_known (is_known b.terms) b.dataset ≡ true
  pub dataset : IsDataset id_order b.dataset
  pub tag_is : IsTagOf d b.tag
