use Rattle.version_overlay.specs.ChangeFilter.{may_cover}
use Rattle.slots.proofs.Keeping.{holds_alike}
use Rattle.slots.proofs.settling.put_in_order.Goals as goal

pub returns-then-may_say_else-clause-holds : goal.returns-then-may_say_else-clause-holds
returns-then-may_say_else-clause-holds c =
    holds_alike c.args.kept.now.slots.items c.args.kept.now.low (may_cover c.args.kept.now.published) c.args.kept.now.settled c.requires c.put_in_order.new.self c.put_in_order.ensures.same
