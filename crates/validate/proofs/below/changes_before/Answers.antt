use Rattle.std.proofs.Common.{◌≡◌, subst, ◌∙◌}
use Rattle.datasets.specs.Id.{id_order}
use Rattle.change_laws.specs.Laws.{IsRising}
use Rattle.reads.specs.Reads.{View, Read, says, applied}
use Rattle.reads.proofs.Changes.{depends}
use Rattle.version_overlay.specs.Settled.{changed_by}
use Rattle.validate.specs.Kept.{shown}
use Rattle.validate.proofs.Along.{says_more, says_all}
use Rattle.validate.proofs.below.changes_before.Goals as goal

pub loop-request-preserved : goal.loop-request-preserved
loop-request-preserved c =
    let base = c.args.scanned.now.dataset in
    let before = changed_by c.loop-request.found.items base in
    let pushed =
    subst (λ (r : Read). (d : View) → IsRising id_order d → says r (changed_by c.push_covering.new.changes.items d) ≡ says r (applied c.index.result.now.delta (changed_by c.loop-request.found.items d)))
    c.read-in-loop-request.ensures c.in_ok-push_covering.ensures in
    says_more c.args.kept.now.slots.items c.args.scanned.now.read c.args.kept.now.low c.args.list.now c.args.i c.requires.leads c.requires.within c.loop-request.request-index c.loop-request-test.true
    base c.rises.ensures c.index.result.now _ _ c.index.ensures c.loop-request.invariant
    (λ d rising e. pushed base c.rises.ensures ∙ depends c.index.result.now.delta before d c.args.scanned.now.read e)

pub returns : goal.returns
returns c =
    says_all (shown c.args.kept.now.slots.items) c.args.scanned.now.read c.args.kept.now.low c.args.list.now c.args.i c.requires.leads c.loop-request.request-index c.loop-request.auto.request-index-end c.loop-request-test.false
    c.args.scanned.now.dataset c.rises.ensures _ c.loop-request.invariant
