-- Literals (RDF 1.1 Concepts, 3.3).
use Rattle.std.specs.Prelude.{ℕ, ◌≡◌, true, List, Option, IsUtf8, ◌↔◌, IsSome}
use Rattle.std.specs.Option.{ForSome}
use Rattle.iris.specs.Iri.{IsIri}
use Rattle.iris.specs.Forms.{is_tag}
use Rattle.terms.specs.Vocabulary.{lang_string}

-- What a contract sees of a literal: the bytes of its lexical form, of its datatype's IRI, and of
-- its language tag.
pub record LiteralValue : Type 0 where
  pub lexical : List ℕ
  pub datatype : List ℕ
  pub tag : Option (List ℕ)

-- a literal has a tag exactly if its datatype is rdf:langString
pub record IsLiteral (l : LiteralValue) : Type 0 where
  pub lexical : IsUtf8 l.lexical
  pub datatype : IsIri l.datatype
  pub tag : ForSome l.tag (λ t. is_tag t ≡ true)
  pub tagged : IsSome l.tag ↔ (l.datatype ≡ lang_string)
