-- The canonical text of what a run makes of a dataset, as N-Quads has it.
use Rattle.std.specs.Prelude.{ℕ, ◌≡◌, false}
use Rattle.std.specs.List.{Contains}
use Rattle.datasets.specs.Dataset.{Dataset}
use Rattle.terms.specs.declared.term.Term.{Term}
use Rattle.nquads.specs.Spelled.{Spells}
use Rattle.canonical_nquads.specs.Canonical.{canonical}
use Rattle.canonical_nquads.specs.Tag.{is_taken}
use Rattle.nquads_laws.specs.WellFormed.{terms_of}
use Rattle.nquads_laws.specs.Named.{named_term, named}

-- the text spells the dataset after, with each made node as the blank node of its label; and where
-- no blank label of the dataset before is marked with the tag, no two terms of it become one
pub record IsSpelledAgain (before after : Dataset Term) (tag : ℕ) : Type 0 where
  pub spelled : Spells (canonical after tag) (named after tag)
  pub apart : is_taken before.quads tag ≡ false → (x y : Term) → Contains (terms_of after) x → Contains (terms_of after) y → named_term tag x ≡ named_term tag y → x ≡ y
