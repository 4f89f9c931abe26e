use Rattle.std.proofs.Common.{◌∙◌, ap}
use Rattle.reads.specs.Reads.{says}
use Rattle.validate.specs.Kept.{shown}
use Rattle.validate.proofs.Along.{says_more, says_all}
use Rattle.validate.proofs.below.part_before.Goals as goal

pub loop-request-init : goal.loop-request-init
loop-request-init c = c.in_ok-part.ensures ∙ ap (says c.args.scanned.now.read) (c.requires.holds.folded c.args.scanned.now.dataset)

pub loop-request-preserved : goal.loop-request-preserved
loop-request-preserved c =
    says_more c.args.kept.now.slots.items c.args.scanned.now.read c.args.kept.now.low c.args.list.now c.args.i c.requires.leads c.requires.within c.loop-request.request-index c.loop-request-test.true
    c.args.scanned.now.dataset c.rises.ensures c.index.result.now _ _ c.index.ensures c.loop-request.invariant c.in_ok-part-2.ensures

pub returns : goal.returns
returns c =
    says_all (shown c.args.kept.now.slots.items) c.args.scanned.now.read c.args.kept.now.low c.args.list.now c.args.i c.requires.leads c.loop-request.request-index c.loop-request.auto.request-index-end c.loop-request-test.false
    c.args.scanned.now.dataset c.rises.ensures _ c.loop-request.invariant
