-- Instances of a template (SPARQL 1.1 Update, 3.1.3).
use Rattle.std.specs.Prelude.{ℕ, ◌+◌, Bool, not, ◌&&◌, if◌then◌else◌, List, [], ◌∷◌, ◌++◌, Option, Some, None, filter_map}
use Rattle.datasets.specs.declared.quad.Quad.{Quad}
use Rattle.meaning.specs.Vocabulary.{Vocabulary}
use Rattle.meaning.specs.Mapping.{Mapping, term_for}
use Rattle.algebra.specs.declared.template.Slot.{Slot}
use Rattle.algebra.specs.declared.template.Slot.TheVariants as slot
use Rattle.algebra.specs.declared.template.QuadTemplate.{QuadTemplate}

module _ {K : Type 0} (V : Vocabulary K) where
  -- the term in a place of a template, if it is bound; node is the blank node that a label makes
  abbrev pub term_at : (ℕ → K) → Mapping K → Slot K → Option K
  term_at node mapping (slot.Term t) = Some t
  term_at node mapping (slot.Variable v) = term_for mapping v
  term_at node mapping (slot.Label l) = Some (node l)

  abbrev pub in_some : Option K → Option (Option K)
  in_some None = None
  in_some (Some g) = Some (Some g)

  -- the graph of a template's quad, if it is bound: Some None is the default graph
  abbrev pub graph_at : (ℕ → K) → Mapping K → Option (Slot K) → Option (Option K)
  graph_at node mapping None = Some None
  graph_at node mapping (Some g) = in_some (term_at node mapping g)

  -- no literal as subject, an IRI as predicate and as graph name (RDF 1.1 Concepts, 3.1)
  abbrev pub is_legal : K → K → Option K → Bool
  is_legal s p None = not (V.is_literal s) && V.is_iri p
  is_legal s p (Some g) = not (V.is_literal s) && (V.is_iri p && V.is_iri g)

  abbrev pub legal_quad : Option K → Option K → Option K → Option (Option K) → Option (Quad K)
  legal_quad (Some s) (Some p) (Some o) (Some g) =
      if is_legal s p g then Some (record { subject = s; predicate = p; object = o; graph = g }) else None
  legal_quad (Some s) (Some p) (Some o) None = None
  legal_quad (Some s) (Some p) None g = None
  legal_quad (Some s) None o g = None
  legal_quad None p o g = None

  -- the quad of a template's quad under a mapping, if it is fully bound and legal
  abbrev pub instance_of : (ℕ → K) → Mapping K → QuadTemplate K → Option (Quad K)
  instance_of node mapping t =
      legal_quad (term_at node mapping t.subject) (term_at node mapping t.predicate) (term_at node mapping t.object) (graph_at node mapping t.graph)

  -- the instances of a template over solutions of ranks from this one on: a label makes a new node
  -- for each solution
  abbrev pub instances_from : (request operation : ℕ) → List (QuadTemplate K) → (rank : ℕ) → List (Mapping K) → List (Quad K)
  instances_from request operation ts rank [] = []
  instances_from request operation ts rank (m ∷ ms) =
      filter_map (instance_of (λ l. V.made request operation l rank) m) ts ++ instances_from request operation ts (rank + 1) ms

  -- the instances of a template over all solutions
  abbrev pub instances : (request operation : ℕ) → List (QuadTemplate K) → List (Mapping K) → List (Quad K)
  instances request operation ts ms = instances_from request operation ts 0 ms
