-- Datasets by RDF 1.1 Concepts, sections 3 and 4, whose graph names are IRIs.
use Rattle.std.specs.Prelude.{ℕ, ◌≡◌, ◌<◌, ◌^◌, Bool, true, false, List, ◌∷◌, ◌++◌, All}
use Rattle.std.specs.List.{flat_map}
use Rattle.std.specs.Option.{ForSome, option_to_list}
use Rattle.iris.specs.Iri.{IsIri}
use Rattle.iris.specs.Forms.{is_label}
use Rattle.datasets.specs.declared.quad.Quad.{Quad}
use Rattle.datasets.specs.Dataset.{Dataset, IsDataset}
use Rattle.terms.specs.Literal.{IsLiteral}
use Rattle.terms.specs.declared.term.Term.{Term}
use Rattle.terms.specs.declared.term.Term.TheVariants.{Iri, Literal, Blank, Made}
use Rattle.terms.specs.Term.{term_order}

-- the numbers of a made node are of 32 bits
pub record AreMadeNumbers (r o l s : ℕ) : Type 0 where
  pub request : r < 2 ^ 32
  pub op : o < 2 ^ 32
  pub label : l < 2 ^ 32
  pub rank : s < 2 ^ 32

-- a term (section 3): each kind in its form
abbrev pub IsTerm : Term → Type 0
IsTerm (Iri i) = IsIri i
IsTerm (Literal l) = IsLiteral l
IsTerm (Blank b) = is_label b ≡ true
IsTerm (Made r o l s) = AreMadeNumbers r o l s

-- an IRI, which is what a predicate or a graph name is (sections 3.1 and 4)
abbrev pub IsIriTerm : Term → Type 0
IsIriTerm (Iri i) = IsIri i
IsIriTerm (Literal l) = ⊥
IsIriTerm (Blank b) = ⊥
IsIriTerm (Made r o l s) = ⊥

-- an IRI or a blank node, written or made, which is what a subject is (section 3.1)
abbrev pub IsSubject : Term → Type 0
IsSubject (Iri i) = IsIri i
IsSubject (Literal l) = ⊥
IsSubject (Blank b) = is_label b ≡ true
IsSubject (Made r o l s) = AreMadeNumbers r o l s

-- a triple, in the default graph or in a graph of this name (sections 3.1 and 4)
pub record IsQuad (q : Quad Term) : Type 0 where
  pub subject : IsSubject q.subject
  pub predicate : IsIriTerm q.predicate
  pub object : IsTerm q.object
  pub graph : ForSome q.graph IsIriTerm

-- a dataset of such quads and names, each once, with the name of each quad's graph (section 4)
pub record IsWellFormed (d : Dataset Term) : Type 0 where
  pub quads : All IsQuad d.quads
  pub names : All IsIriTerm d.names
  pub dataset : IsDataset term_order d

-- ---- the terms of a dataset

-- in each place of a quad
abbrev pub terms_in : Quad Term → List Term
terms_in q = q.subject ∷ q.predicate ∷ q.object ∷ option_to_list q.graph

-- in its quads, and its graph names
abbrev pub terms_of : Dataset Term → List Term
terms_of d = flat_map terms_in d.quads ++ d.names

-- a term that a text can write as it is: no made node
abbrev pub is_written : Term → Bool
is_written (Iri i) = true
is_written (Literal l) = true
is_written (Blank b) = true
is_written (Made r o l s) = false
