-- Reads put to datasets.
use Rattle.reads.specs.Reads.{View, Read}

-- a read, and the dataset that it is put to
pub record Question : Type 0 where
  pub dataset : View
  pub read : Read
