use Rattle.std.proofs.Common.{◌≡◌, arith}
use Rattle.validate.specs.Kept.{shown}
use Rattle.validate.proofs.Leading.{gathers_none, gathers_more, leads_gathered}
use Rattle.validate.proofs.candidates.covering_between.Goals as goal

pub loop-request-init : goal.loop-request-init
loop-request-init c = gathers_none (shown c.args.slots.now) c.args.read.now c.args.from _ c.new-found.ensures.items

pub loop-request-preserved : goal.loop-request-preserved
loop-request-preserved c =
    let lt = c.loop-request-test.true in
    let within = c.requires.within in
    gathers_more c.args.slots.now c.args.read.now c.args.from c.loop-request.request c.index-slots-request.result c.loop-request.found.items _ c.index-slots-request.is (omega (arith, lt, within))
    c.loop-request.auto.request c.in_ok-push_if_covering.ensures c.loop-request.invariant

pub returns : goal.returns
returns c =
    let past = c.loop-request-test.false in
    let within = c.loop-request.auto.request-end c.requires.rises in
    let top : c.loop-request.request ≡ c.args.i = omega (arith, past, within) in
    leads_gathered (shown c.args.slots.now) c.args.read.now c.args.from c.loop-request.request c.args.i c.loop-request.found.items c.requires.rises top c.loop-request.invariant
