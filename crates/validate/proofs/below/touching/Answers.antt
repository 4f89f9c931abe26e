use Rattle.std.proofs.Common.{ap, ◌∙◌, ◌++◌, append-nil}
use Rattle.validate.specs.Below.{touching}
use Rattle.validate.specs.Kept.{shown}
use Rattle.validate.proofs.Along.{touching_more, touching_all}
use Rattle.validate.proofs.below.touching.Goals as goal

pub loop-request-init : goal.loop-request-init
loop-request-init c = ap (λ ts. touching (shown c.args.slots.now) c.args.low c.args.read.now ++ ts) c.new-found.ensures ∙ append-nil (touching (shown c.args.slots.now) c.args.low c.args.read.now)

pub loop-request-preserved : goal.loop-request-preserved
loop-request-preserved c =
    touching_more c.args.slots.now c.args.read.now c.args.low c.args.list.now c.args.i c.requires.leads c.requires.within c.loop-request.request-index c.loop-request-test.true
    c.index-slots-request.result c.loop-request.found _ c.index-slots-request.is c.loop-request.invariant c.in_ok-push_touching.ensures

pub returns : goal.returns
returns c =
    touching_all (shown c.args.slots.now) c.args.read.now c.args.low c.args.list.now c.args.i c.requires.leads c.loop-request.request-index c.loop-request.auto.request-index-end c.loop-request-test.false
    c.loop-request.found c.loop-request.invariant
