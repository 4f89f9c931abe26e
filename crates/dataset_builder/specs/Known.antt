-- IRIs whose places are known beside a dataset of places.
use Rattle.std.specs.Prelude.{◌≡◌, ℕ, true, List, All}
use Rattle.datasets.specs.declared.quad.Quad.{Quad}
use Rattle.datasets.specs.Dataset.{IsDataset}
use Rattle.terms.specs.declared.term.Term.{Term}
use Rattle.terms.specs.declared.term.Term.TheVariants as term
use Rattle.dataset_builder.specs.declared.known_iris.KnownIri.{KnownIri}
use Rattle.terms.specs.Term.{term_order}
use Rattle.terms.specs.Placed.{term_at, is_within, AreWithin, dataset_at}

-- an IRI's place has it
abbrev pub IsKnown : List Term → KnownIri → Type 0
IsKnown terms i = (term_at terms i.place ≡ term.Iri i.text.now) × (is_within terms i.place ≡ true)

pub record IsPlaced (terms : List Term) (known : List KnownIri) (quads : List (Quad ℕ)) (names : List ℕ) : Type 0 where
  pub placed : IsDataset term_order (dataset_at terms quads names) × AreWithin terms quads names
  pub known_are : All (IsKnown terms) known
