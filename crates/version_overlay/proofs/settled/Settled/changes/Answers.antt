use Rattle.std.proofs.Common.{ap, sym, ◌∙◌, take}
use Rattle.reads.specs.Reads.{says, applied}
use Rattle.reads.proofs.Changes.{depends}
use Rattle.version_overlay.specs.Settled.{changed_by}
use Rattle.version_overlay.proofs.Changing.{changed_by_more, changed_by-nothing}
use Rattle.version_overlay.proofs.settled.Settled.changes.Goals as goal

pub loop-each-preserved : goal.loop-each-preserved
loop-each-preserved c d rising =
    let before = take c.loop-each.each-index c.deref-each-items.result.now in
    c.in_ok-push_covering.ensures d rising
    ∙ ap (λ x. says c.args.read.now (applied x (changed_by c.loop-each.found.items d))) c.change.ensures
    ∙ depends c.each-item.result (changed_by c.loop-each.found.items d) (changed_by before d) c.args.read.now (c.loop-each.invariant d rising)
    ∙ ap (says c.args.read.now) (sym (changed_by_more c.deref-each-items.result.now c.loop-each.each-index c.each-item.result c.loop-each-test.true c.each-item.is d))

pub returns-then-not-may_say_else : goal.returns-then-not-may_say_else
returns-then-not-may_say_else c d rising =
    ap (λ cs. says c.args.read.now (changed_by cs d)) c.before.before.new-found.ensures.items ∙ ap (says c.args.read.now) (changed_by-nothing d) ∙ sym (c.may_say_else.ensures c.if-not-may_say_else.true d rising)
