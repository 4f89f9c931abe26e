use Rattle.std.proofs.Common.{◌∙◌, ap, sym}
use Rattle.std.proofs.lemmas.Result.{IfOk-weaker}
use Rattle.version_overlay.specs.Settled.{changed_by}
use Rattle.validate.specs.Kept.{shown}
use Rattle.validate.specs.Below.{view_at}
use Rattle.slots.proofs.Alike.{view_shown}
use Rattle.slots.proofs.slots.Slots.view.Goals as goal

pub returns-then-n-self : goal.returns-then-n-self
unfolding view_at
returns-then-n-self c =
    IfOk-weaker c.changed_from.result _ _
    (λ after e.
    e c.args.base.now c.in_ok-view.ensures
    ∙ ap (λ xs. view_at c.args.base.now (shown xs) c.args.n) c.as_slice-slots.ensures.value
    ∙ view_shown c.self.inside.kept.slots.items c.args.base.now c.args.n
    ∙ ap (λ s. view_at c.args.base.now s c.args.n) c.self.view_is)
    c.changed_from.ensures

pub returns : goal.returns
returns c =
    IfOk-weaker c.changed_from-2.result _ _
    (λ after e.
    e c.args.base.now
    (c.in_ok-view-2.ensures
    ∙ ap (changed_by c.self.inside.kept.settled) c.in_ok-view.ensures
    ∙ c.self.invariant.folded c.args.base.now
    ∙ ap (λ xs. view_at c.args.base.now (shown xs) c.self.inside.kept.low) (sym c.as_slice-slots.ensures.value))
    ∙ ap (λ xs. view_at c.args.base.now (shown xs) c.args.n) c.as_slice-slots.ensures.value
    ∙ view_shown c.self.inside.kept.slots.items c.args.base.now c.args.n
    ∙ ap (λ s. view_at c.args.base.now s c.args.n) c.self.view_is)
    c.changed_from-2.ensures
