use Rattle.std.proofs.Common.{◌≡◌, sym, subst}
use Rattle.blocklock.specs.Passes.{MayGive}
use Rattle.shared.specs.Calls.{Viewed, owner, history_of}
use Rattle.shared.proofs.shared_block.give.Goals as goal

pub give-requires : goal.give-requires
give-requires c =
    subst (λ (p : Viewed). (p.table ≡ c.args.held.lock.now) × MayGive owner p (history_of c.args.held.book.value.book)) (sym c.pass.view_is) c.requires
