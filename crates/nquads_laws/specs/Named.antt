-- A dataset with each made node as the blank node of its printed label (RDF 1.1 Concepts, section
-- 3.4: a label is no part of what a blank node is).
use Rattle.std.specs.Prelude.{ℕ, map}
use Rattle.std.specs.Option.{option_map}
use Rattle.sets.specs.Sets.{set_of}
use Rattle.datasets.specs.declared.quad.Quad.{Quad}
use Rattle.datasets.specs.Dataset.{Dataset, quad_order}
use Rattle.terms.specs.declared.term.Term.{Term}
use Rattle.terms.specs.declared.term.Term.TheVariants.{Iri, Literal, Blank, Made}
use Rattle.terms.specs.Term.{term_order}
use Rattle.terms.specs.Canonical.{made_label}

-- a made node becomes the blank node of its label; every other term stays
abbrev pub named_term : ℕ → Term → Term
named_term tag (Iri i) = Iri i
named_term tag (Literal l) = Literal l
named_term tag (Blank b) = Blank b
named_term tag (Made r o l s) = Blank (made_label tag r o l s)

-- in each place of a quad
abbrev pub named_quad : ℕ → Quad Term → Quad Term
named_quad tag q =
    record { subject = named_term tag q.subject; predicate = named_term tag q.predicate; object = named_term tag q.object; graph = option_map (named_term tag) q.graph }

-- in each quad and each graph name
abbrev pub named : Dataset Term → ℕ → Dataset Term
named d tag = record { quads = set_of (quad_order term_order) (map (named_quad tag) d.quads); names = set_of term_order (map (named_term tag) d.names) }
