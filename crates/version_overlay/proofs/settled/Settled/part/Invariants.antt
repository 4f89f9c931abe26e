use Rattle.std.proofs.Common.{◌≡◌, take}
use Rattle.reads.specs.Reads.{says}
use Rattle.version_overlay.specs.Settled.{changed_by, part_or}
use Rattle.version_overlay.proofs.settled.Settled.part.Given as goal

abbrev pub invariant-loop-level : goal.invariant-loop-level
invariant-loop-level l =
    says l.scanned.read (part_or l.scanned.dataset l.part) ≡ says l.scanned.read (changed_by (take l.level-index l.level-items) l.scanned.dataset)
