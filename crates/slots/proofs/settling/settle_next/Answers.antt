use Rattle.std.proofs.Common.{refl, ap}
use Rattle.version_overlay.specs.ChangeFilter.{may_cover}
use Rattle.incarnations.specs.declared.state.Slot.{Slot}
use Rattle.validate.proofs.Shown.{kept_is}
use Rattle.slots.proofs.Keeping.{holds_settled}
use Rattle.slots.proofs.settling.settle_next.Goals as goal

pub returns-clause-holds : goal.returns-clause-holds
returns-clause-holds c =
    holds_settled c.args.kept.now.slots.items c.args.kept.now.low (may_cover c.args.kept.now.published) c.args.kept.now.settled c.requires.holds c.push.new.self c.index.result.now.delta _ refl c.requires.within
    (ap (λ (z : Slot). z.delta) (kept_is c.args.kept.now.slots.items c.args.kept.now.low c.index.result.now c.index.ensures c.requires.within)) c.in_ok-push.ensures.ok c.requires.closed
