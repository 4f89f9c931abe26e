-- Between which graphs quads lie, by a number of each graph.
use Rattle.std.specs.Prelude.{◌≤◌, ◌+◌, ◌^◌, ◌-◌, ◌&&◌, ◌<◌, ℕ, Bool, true, List, length, Option, Some, None, nat_le}
use Rattle.std.proofs.Common.{get_or}
use Rattle.datasets.specs.declared.id.Id.{Id}
use Rattle.datasets.specs.declared.id.Id.TheVariants.{Known, Made}
use Rattle.datasets.specs.declared.quad.Quad.{Quad}
use Rattle.datasets.specs.declared.read.GraphPlace.{GraphPlace}
use Rattle.datasets.specs.declared.read.GraphPlace.TheVariants.{Any, Only}
use Rattle.delta.specs.declared.graph_span.GraphSpan.{GraphSpan}
use Rattle.delta.specs.declared.graph_span.GraphSpan.TheVariants as span

-- 0 for the default graph, and one number for all made nodes
abbrev pub graph_number : Option Id → ℕ
graph_number None = 0
graph_number (Some (Known n)) = n + 1
graph_number (Some (Made request op label rank)) = 2 ^ 64 - 1

-- the quad's graph is among them
abbrev pub IsWithin : GraphSpan → Quad Id → Type 0
IsWithin span.Any q = Unit {0}
IsWithin (span.Between low high) q = (low ≤ graph_number q.graph) × (graph_number q.graph ≤ high)

abbrev pub AreWithin : GraphSpan → List (Quad Id) → Type 0
AreWithin span quads = (i : ℕ) (d : Quad Id) → i < length quads → IsWithin span (get_or quads i d)

-- a quad in such a graph may be among them
abbrev pub lets : GraphSpan → GraphPlace Id → Bool
lets span.Any place = true
lets (span.Between low high) Any = true
lets (span.Between low high) (Only g) = nat_le low (graph_number g) && nat_le (graph_number g) high
