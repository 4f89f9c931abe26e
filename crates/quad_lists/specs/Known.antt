-- Quads of known terms.
use Rattle.std.specs.Prelude.{ℕ, Option, Some, None}
use Rattle.datasets.specs.declared.id.Id.{Id}
use Rattle.datasets.specs.declared.id.Id.TheVariants.{Known}
use Rattle.datasets.specs.declared.quad.Quad.{Quad}
use Rattle.quad_lists.specs.declared.known.KnownQuad.{KnownQuad}

-- the name of a graph, if it has one, by its number
abbrev pub known_graph : Option ℕ → Option Id
known_graph None = None
known_graph (Some n) = Some (Known n)

-- the quad that these numbers are
abbrev pub quad_of : KnownQuad → Quad Id
quad_of q = record { subject = Known q.subject; predicate = Known q.predicate; object = Known q.object; graph = known_graph q.graph }
