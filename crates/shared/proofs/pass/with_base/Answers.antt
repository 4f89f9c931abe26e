use Rattle.std.proofs.Common.{◌≡◌, Some, rules}
use Rattle.std.proofs.lemmas.List.Elements.{All-pop}
use Rattle.shared.specs.Calls.{Viewed}
use Rattle.shared.proofs.Passes.{one_moved}
use Rattle.shared.proofs.pass.with_base.Goals as goal

pub loop-inner-preserved : goal.loop-inner-preserved
loop-inner-preserved c = (
  one_moved c.loop-inner.left.items c.pop.new.self.items c.loop-inner.passes.items c.push.new.self.items c.args.inner.items c.in-Some.inner c.in-Some.ensures.items (search rules) c.loop-inner.invariant.0,
  (All-pop (λ (p : Viewed). p.subject.base ≡ c.args.base.now) _ c.pop.new.self.items (Some c.in-Some.inner) c.in-Some.ensures.items c.loop-inner.invariant.1).0,
)
