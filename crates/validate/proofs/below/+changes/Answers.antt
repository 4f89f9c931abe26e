use Rattle.std.proofs.Common.{arith, ap, ◌∙◌}
use Rattle.std.proofs.lemmas.Result.{IfOk-weaker}
use Rattle.incarnations.specs.Slots.{Slot}
use Rattle.incarnations.specs.Kept.{plain}
use Rattle.validate.specs.Kept.{shown}
use Rattle.validate.proofs.Shown.{at_slot}
use Rattle.validate.proofs.Overlay.{changes_one}
use Rattle.validate.proofs.below.+changes.Goals as goal

pub returns-then-middle-low : goal.returns-then-middle-low
returns-then-middle-low n c =
    let some = c.requires.some in
    let within = c.requires.within in
    let middle = c.if-middle-low.true in
    IfOk-weaker c.copied.result _ _
    (λ d e. changes_one (shown c.args.slots.now) c.args.low c.args.high d
    (e ∙ ap (λ (y : Slot). y.delta) (at_slot plain c.args.slots.now c.args.low c.index-slots-low.result (omega (arith, some, within)))) (omega (arith, some, middle))) c.copied.ensures
