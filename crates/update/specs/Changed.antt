-- What a change, or the reason why there is none, makes of a dataset.
use Rattle.std.specs.Prelude.{◌≡◌, filter, Result, Ok, Err}
use Rattle.sets.specs.Sets.{has, set_of, without}
use Rattle.datasets.specs.Dataset.{quad_order}
use Rattle.datasets.specs.Id.{id_order}
use Rattle.reads.specs.Reads.{View, Delta, applied}

-- the change from a dataset to another that speaks of what differs, and of nothing else
abbrev pub difference : View → View → Delta
difference d e = record {
  present = without (quad_order id_order) e.quads d.quads;
  absent = without (quad_order id_order) d.quads e.quads;
  there = without id_order e.names d.names;
  gone = without id_order d.names e.names;
}

-- the dataset after a change, or the reason
abbrev pub changed : {E : Type 0} → View → Result Delta E → Result View E
changed d (Ok c) = Ok (applied c d)
changed d (Err e) = Err e

-- a change speaks of what another speaks of where that is not so in a dataset already, and of
-- nothing else
pub record IsNewOf (change c : Delta) (d : View) : Type 0 where
  pub present : change.present ≡ set_of (quad_order id_order) (without (quad_order id_order) c.present d.quads)
  pub absent : change.absent ≡ set_of (quad_order id_order) (filter (has (quad_order id_order) d.quads) c.absent)
  pub there : change.there ≡ set_of id_order (without id_order c.there d.names)
  pub gone : change.gone ≡ set_of id_order (filter (has id_order d.names) c.gone)
