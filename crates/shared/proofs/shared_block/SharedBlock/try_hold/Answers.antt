use Rattle.std.proofs.Common.{◌≡◌, ◌∙◌, ap, sym, subst, IfOk}
use Rattle.blocklock.specs.Passes.{LockTable, Takes}
use Rattle.shared.specs.Calls.{Viewed, owner, history_of}
use Rattle.shared.proofs.Passes.{still_about}
use Rattle.shared.proofs.shared_block.SharedBlock.try_hold.Goals as goal

pub invariant_of-pass : goal.invariant_of-pass
invariant_of-pass c =
    c.pass.invariant
    ∙ sym (still_about c.try_hold.result c.pass.inside.inner c.try_hold.new.pass (λ h. (h.lock.now ≡ c.self.inside.lock) × Takes owner c.pass.inside.inner (history_of h.book.value.book) c.try_hold.new.pass)
    (λ h k. ap (λ (p : Viewed). p.subject.base) k.1.sees) c.try_hold.ensures.held c.try_hold.ensures.busy)

pub returns-clause-held : goal.returns-clause-held
returns-clause-held c =
    subst (λ (t : LockTable × Viewed). IfOk c.try_hold.result (λ h. (h.lock.now ≡ t.0) × Takes owner t.1 (history_of h.book.value.book) c.try_hold.new.pass)) (λ k. (c.self.view_is k, c.pass.view_is k)) c.try_hold.ensures.held
