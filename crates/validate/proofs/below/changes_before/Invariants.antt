use Rattle.std.proofs.Common.{◌≡◌}
use Rattle.reads.specs.Reads.{says}
use Rattle.version_overlay.specs.Settled.{changed_by}
use Rattle.validate.specs.Below.{view_at}
use Rattle.validate.specs.Kept.{shown}
use Rattle.validate.specs.Lower.{after_first}
use Rattle.validate.proofs.below.changes_before.Given as goal

abbrev pub invariant-loop-request : goal.invariant-loop-request
invariant-loop-request l =
    says l.scanned.read (changed_by l.found.items l.scanned.dataset) ≡ says l.scanned.read (view_at l.scanned.dataset (shown l.kept.slots.items) (after_first l.kept.low l.list l.i l.request-index))
