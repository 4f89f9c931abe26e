use Rattle.std.proofs.Common.{ap, sym, ◌∙◌}
use Rattle.reads.specs.Reads.{covers}
use Rattle.reads.proofs.Changes.{uncovered}
use Rattle.version_overlay.proofs.Changing.{covered_as}
use Rattle.version_overlay.proofs.along.changed_part.Goals as goal

pub returns-then-not-covers : goal.returns-then-not-covers
returns-then-not-covers c =
    λ d rising same. same ∙ sym (uncovered c.args.delta.now d c.args.scanned.now.read rising (ap (covers c.args.delta.now) (sym c.read-read.ensures) ∙ sym c.covers.ensures ∙ c.if-not-covers.true))

pub returns : goal.returns
returns c =
    λ d rising same.
    covered_as c.args.delta.now c.args.scanned.now.read c.read-read.result.now c.read-read.ensures c.in_ok-asked.field-0 c.in_ok-asked.ensures c.in_ok-part.part d (c.in_ok-part.ensures ∙ same)
    c.in_ok-next.next c.in_ok-next.ensures
