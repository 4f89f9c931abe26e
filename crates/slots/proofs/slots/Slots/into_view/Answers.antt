use Rattle.std.proofs.Common.{◌≡◌, arith, ◌∙◌, ap}
use Rattle.std.proofs.lemmas.Result.{IfOk-weaker}
use Rattle.version_overlay.specs.Settled.{changed_by}
use Rattle.validate.specs.Kept.{shown}
use Rattle.validate.specs.Below.{view_at}
use Rattle.slots.proofs.Alike.{view_shown}
use Rattle.slots.proofs.slots.Slots.into_view.Given as given
use Rattle.slots.proofs.slots.Slots.into_view.Goals.{After-apart-settled}
use Rattle.slots.proofs.slots.Slots.into_view.Goals as goal

-- what the settled changes make of the base is the view of the first requests
settled_is : (g : given.Over) (c : After-apart-settled g) → changed_by c.apart-settled.result.0 c.args.base.now ≡ view_at c.args.base.now c.args.self c.args.n
settled_is g c =
    let same : c.self.inside.kept.low ≡ c.args.n = omega (arith, c.if-n-self.false) in
    ap (λ s. changed_by s c.args.base.now) c.apart-settled.ensures
    ∙ c.self.invariant.folded c.args.base.now
    ∙ ap (λ m. view_at c.args.base.now (shown c.self.inside.kept.slots.items) m) same
    ∙ view_shown c.self.inside.kept.slots.items c.args.base.now c.args.n
    ∙ ap (λ s. view_at c.args.base.now s c.args.n) c.self.view_is

pub returns-then-threads-le1 : goal.returns-then-threads-le1
returns-then-threads-le1 g c = IfOk-weaker c.into_applied.result _ _ (λ after e. e ∙ settled_is g c.before.before.before) c.into_applied.ensures

pub returns : goal.returns
returns g c = IfOk-weaker c.join-view.result.1 _ _ (λ after e. e ∙ settled_is g c.before.before) c.join-view.ensures.second
