-- Changes that go on, and what is seen through them.
use Rattle.std.specs.Prelude.{List, filter}
use Rattle.sets.specs.Sets.{set_of, union, without}
use Rattle.datasets.specs.declared.id.Id.{Id}
use Rattle.datasets.specs.declared.quad.Quad.{Quad}
use Rattle.datasets.specs.declared.read.QuadPattern.{QuadPattern}
use Rattle.datasets.specs.Dataset.{quad_order, names_of, matches}
use Rattle.datasets.specs.Id.{id_order}
use Rattle.reads.specs.Reads.{View, Delta}

-- of the quads that were told, those that match and stay, and those that match and come
abbrev pub seen_through : Delta → QuadPattern Id → List (Quad Id) → List (Quad Id)
seen_through c p told =
    union (quad_order id_order) (without (quad_order id_order) (filter (matches id_order p) told) c.absent) (filter (matches id_order p) c.present)

-- a change, and then some quads deleted, and then others inserted with their graphs
abbrev pub replaced_change : Delta → List (Quad Id) → List (Quad Id) → Delta
replaced_change c deleted inserted = record {
  present = union (quad_order id_order) (without (quad_order id_order) c.present deleted) inserted;
  absent = union (quad_order id_order) c.absent deleted;
  there = union id_order c.there (names_of inserted);
  gone = set_of id_order c.gone;
}

-- a dataset without some quads, and then with others and their graphs
abbrev pub with_replaced : View → List (Quad Id) → List (Quad Id) → View
with_replaced d deleted inserted = record {
  quads = union (quad_order id_order) (without (quad_order id_order) d.quads deleted) inserted;
  names = union id_order d.names (names_of inserted);
}
