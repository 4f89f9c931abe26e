use Rattle.std.proofs.Common.{ap, sym, ◌∙◌, take}
use Rattle.reads.specs.Reads.{says}
use Rattle.version_overlay.proofs.Changing.{changed_by_more, changed_by-rises, changed_by-nothing}
use Rattle.version_overlay.specs.Settled.{changed_by}
use Rattle.version_overlay.proofs.settled.Settled.part.Goals as goal

pub loop-level-init : goal.loop-level-init
loop-level-init c = ap (says c.args.scanned.now.read) (sym (changed_by-nothing c.args.scanned.now.dataset))

pub loop-level-preserved : goal.loop-level-preserved
loop-level-preserved c =
    let before = take c.loop-level.level-index c.deref-level-items.result.now in
    c.in_ok-part.ensures (changed_by before c.args.scanned.now.dataset) (changed_by-rises before c.args.scanned.now.dataset c.rises.ensures) c.loop-level.invariant
    ∙ ap (says c.args.scanned.now.read) (sym (changed_by_more c.deref-level-items.result.now c.loop-level.level-index c.level-item.result c.loop-level-test.true c.level-item.is c.args.scanned.now.dataset))
