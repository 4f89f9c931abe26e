use Rattle.std.proofs.Common.{◌≡◌, take}
use Rattle.datasets.specs.Id.{id_order}
use Rattle.change_laws.specs.Laws.{IsRising}
use Rattle.reads.specs.Reads.{View, says}
use Rattle.version_overlay.specs.Settled.{changed_by}
use Rattle.version_overlay.proofs.settled.Settled.changes.Given as goal

abbrev pub invariant-loop-each : goal.invariant-loop-each
invariant-loop-each l = (d : View) → IsRising id_order d → says l.read (changed_by l.found.items d) ≡ says l.read (changed_by (take l.each-index l.each-items) d)
