use Rattle.std.proofs.Common.{◌≡◌, ap, sym, subst, ◌∙◌, take}
use Rattle.datasets.specs.Id.{id_order}
use Rattle.change_laws.specs.Laws.{IsRising}
use Rattle.reads.specs.Reads.{View, says, applied}
use Rattle.reads.specs.Questions.{Question}
use Rattle.version_overlay.specs.Settled.{changed_by, part_or}
use Rattle.version_overlay.proofs.Changing.{changed_by_more, changed_by-rises, changed_by-nothing}
use Rattle.version_overlay.proofs.along.answer_after.Goals as goal

pub loop-delta-init : goal.loop-delta-init
loop-delta-init c = ap (says c.args.read.now) (sym (changed_by-nothing c.args.dataset.now))

pub loop-delta-preserved : goal.loop-delta-preserved
loop-delta-preserved c =
    let before = take c.loop-delta.delta-index c.args.changes.now in
    let rising = subst (λ (q : Question). IsRising id_order q.dataset) c.in_ok-scanned.ensures c.rises.ensures in
    let next =
    subst
    (λ (q : Question). (d : View) → IsRising id_order d → says q.read (part_or q.dataset c.loop-delta.part) ≡ says q.read d → says q.read (part_or q.dataset c.in_ok-part.part) ≡ says q.read (applied c.delta-item.result d))
    c.in_ok-scanned.ensures c.in_ok-part.ensures in
    next (changed_by before c.args.dataset.now) (changed_by-rises before c.args.dataset.now rising) c.loop-delta.invariant
    ∙ ap (says c.args.read.now) (sym (changed_by_more c.args.changes.now c.loop-delta.delta-index c.delta-item.result c.loop-delta-test.true c.delta-item.is c.args.dataset.now))
