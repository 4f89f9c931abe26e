use Rattle.std.proofs.Common.{sym}
use Rattle.version_overlay.specs.ChangeFilter.{may_cover}
use Rattle.validate.proofs.Along.{blocker_more, blocker_all}
use Rattle.validate.proofs.Settled.{none_below}
use Rattle.validate.specs.Kept.{shown}
use Rattle.validate.proofs.below.blocker.Goals as goal

pub loop-request-init : goal.loop-request-init
loop-request-init c =
    sym (none_below c.args.kept.now.slots.items c.args.kept.now.low (may_cover c.args.kept.now.published) c.args.kept.now.settled c.requires.holds c.args.low c.args.read.now c.requires.low)

pub loop-request-preserved : goal.loop-request-preserved
loop-request-preserved c =
    blocker_more c.args.kept.now.slots.items c.args.read.now c.args.low c.args.list.now c.args.i c.requires.leads c.requires.within c.loop-request.request-index c.loop-request-test.true
    c.index.result.now c.loop-request.found _ c.index.ensures c.loop-request.invariant c.blocker_or-found.ensures

pub returns : goal.returns
returns c =
    blocker_all (shown c.args.kept.now.slots.items) c.args.read.now c.args.low c.args.list.now c.args.i c.requires.leads c.loop-request.request-index c.loop-request.auto.request-index-end c.loop-request-test.false
    c.loop-request.found c.loop-request.invariant
