-- Triples of templates and patterns.
use Rattle.std.specs.Prelude.{ℕ, List, map, Option, Some, None}
use Rattle.std.specs.List.{flat_map}
use Rattle.std.specs.Option.{option_map}
use Rattle.terms.specs.declared.term.Term.{Term}
use Rattle.algebra.specs.declared.template.Slot.{Slot}
use Rattle.algebra.specs.declared.template.Slot.TheVariants as slot
use Rattle.algebra.specs.declared.pattern.Place.{Place}
use Rattle.algebra.specs.declared.pattern.Place.TheVariants as place
use Rattle.algebra.specs.declared.pattern.TriplePattern.{TriplePattern}
use Rattle.algebra.specs.declared.template.QuadTemplate.{QuadTemplate}
use Rattle.syntax_trees.specs.declared.tree.Name.{Name}
use Rattle.syntax_trees.specs.declared.tree.Node.{Node}
use Rattle.syntax_trees.specs.declared.tree.Node.TheVariants as node
use Rattle.syntax_trees.specs.declared.tree.Property.{Property}
use Rattle.syntax_trees.specs.declared.tree.SameSubject.{SameSubject}
use Rattle.syntax_trees.specs.declared.tree.Block.{Block}
use Rattle.names.specs.Names.{Prefixes, name_term, term_of}
use Rattle.names.specs.Numbers.{Labels, number_of, label_number}

-- predicate-object lists and object lists, written out (SPARQL 1.1 Query, 4.2.1 and 4.2.2): what
-- each triple gives, by its subject, verb and object
abbrev pub of_property : {A : Type 0} → (Node → Node → Node → A) → Node → Property → List A
of_property f subject p = map (f subject p.verb) p.objects

abbrev pub of_subject : {A : Type 0} → (Node → Node → Node → A) → SameSubject → List A
of_subject f x = flat_map (of_property f x.subject) x.properties

abbrev pub of_triples : {A : Type 0} → (Node → Node → Node → A) → List SameSubject → List A
of_triples f xs = flat_map (of_subject f) xs

-- ---- patterns

module _ (ds : Prefixes) (vs : List (List ℕ)) where
  abbrev pub place_of : Node → Place Term
  place_of (node.Variable v) = place.Variable (number_of vs v)
  place_of (node.Name n) = place.Term (term_of ds (node.Name n))
  place_of node.Type = place.Term (term_of ds node.Type)
  place_of (node.Blank l) = place.Term (term_of ds (node.Blank l))
  place_of (node.Literal l) = place.Term (term_of ds (node.Literal l))

  abbrev pub pattern_of : Node → Node → Node → TriplePattern Term
  pattern_of s v o = record { subject = place_of s; predicate = place_of v; object = place_of o }

  abbrev pub patterns_of : List SameSubject → List (TriplePattern Term)
  patterns_of xs = of_triples pattern_of xs

-- ---- templates

module _ (ds : Prefixes) (vs : List (List ℕ)) (ls : Labels) where
  abbrev pub slot_of : Node → Slot Term
  slot_of (node.Variable v) = slot.Variable (number_of vs v)
  slot_of (node.Blank l) = slot.Label (label_number ls l)
  slot_of (node.Name n) = slot.Term (term_of ds (node.Name n))
  slot_of node.Type = slot.Term (term_of ds node.Type)
  slot_of (node.Literal l) = slot.Term (term_of ds (node.Literal l))

  -- the graph of a template's quads: that of their GRAPH block, else that of WITH, else the default
  -- graph
  abbrev pub graph_of : Option Name → Option Node → Option (Slot Term)
  graph_of with None = option_map (λ n. slot.Term (name_term ds n)) with
  graph_of with (Some n) = Some (slot_of n)

  abbrev pub quad_of : Option (Slot Term) → Node → Node → Node → QuadTemplate Term
  quad_of graph s v o = record { subject = slot_of s; predicate = slot_of v; object = slot_of o; graph = graph }

  abbrev pub quads_of_block : Option Name → Block → List (QuadTemplate Term)
  quads_of_block with b = of_triples (quad_of (graph_of with b.graph)) b.triples

  -- a template, with the graph of WITH
  abbrev pub template_of : Option Name → List Block → List (QuadTemplate Term)
  template_of with bs = flat_map (quads_of_block with) bs
