use Rattle.std.proofs.Common.{◌≡◌, take}
use Rattle.reads.specs.Reads.{says}
use Rattle.version_overlay.specs.Settled.{changed_by, part_or}
use Rattle.version_overlay.proofs.along.answer_after.Given as goal

abbrev pub invariant-loop-delta : goal.invariant-loop-delta
invariant-loop-delta l = says l.read (part_or l.dataset l.part) ≡ says l.read (changed_by (take l.delta-index l.changes) l.dataset)
