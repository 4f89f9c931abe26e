-- IRIs that lie in a text, or in memory of their own.
use Rattle.std.specs.Prelude.{ℕ, List}
use Rattle.iris.specs.declared.iri_cow.IriForm.{IriForm}
use Rattle.iris.specs.declared.iri_cow.IriForm.TheVariants.{Borrowed, Owned}

-- the bytes of an IRI, wherever they are
abbrev pub bytes_in : IriForm → List ℕ
bytes_in (Borrowed text) = text.now
bytes_in (Owned iri) = iri
