-- The laws of changes, at numbers of terms.
use Rattle.std.proofs.Common.{◌≡◌, false, [], refl}
use Rattle.datasets.specs.declared.read.Read.TheVariants.{Scan, GraphIs, Graphs}
use Rattle.datasets.specs.Id.{id_order, id_total, id_exact, quad_total, quad_exact}
use Rattle.change_laws.specs.Laws.{IsRising}
use Rattle.change_laws.proofs.ChangeLaws.{uncovered_keeps, same_after, rises_after, after-nothing}
use Rattle.reads.specs.Reads.{View, Delta, Read, says, applied, covers, no_change}

pub uncovered : (c : Delta) (v : View) (r : Read) → IsRising id_order v → covers c r ≡ false → says r (applied c v) ≡ says r v
unfolding says applied covers
uncovered c v r rising h = uncovered_keeps id_total id_exact c v r rising h

pub depends : (c : Delta) (v w : View) (r : Read) → says r v ≡ says r w → says r (applied c v) ≡ says r (applied c w)
unfolding says applied
depends c v w r h = same_after id_total id_exact c v w r h

pub rises : (c : Delta) (v : View) → IsRising id_order (applied c v)
unfolding applied
rises c v = rises_after id_total id_exact c v

-- no change, of a dataset that is two sets
pub nothing_changed : (v : View) → IsRising id_order v → applied no_change v ≡ v
unfolding applied
nothing_changed v rising = λ i. record {
  quads = after-nothing (quad_total id_total) (quad_exact id_order id_exact) v.quads [] [] rising.quads refl refl i;
  names = after-nothing id_total id_exact v.names [] [] rising.names refl refl i;
}

pub covers_none : (r : Read) → covers no_change r ≡ false
unfolding covers
covers_none (Scan p) = refl
covers_none (GraphIs g) = refl
covers_none Graphs = refl
