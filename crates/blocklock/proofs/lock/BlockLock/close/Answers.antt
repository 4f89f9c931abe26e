use Rattle.std.proofs.Common.{All, ap, ◌∙◌, ◌++◌, sym, subst}
use Rattle.std.proofs.lemmas.List.Elements.{All-pop}
use Rattle.std.specs.Prelude.{option_to_list, IfSome}
use Rattle.blocklock.specs.Passes.{Includes, Takes, IsIdleAt}
use Rattle.blocklock.proofs.Keeps.{closes, closes_below}
use Rattle.blocklock.proofs.Closing.{all_closed, all_below}
use Rattle.blocklock.proofs.lock.BlockLock.close.Goals as goal

pub hold-book-requires : goal.hold-book-requires
hold-book-requires g c =
    let pass_of = g.P.IntoPass.pass_of in
    let all = All-pop (λ p. IsIdleAt c.args.self (pass_of p)) c.args.passes.items c.pop.new.self.items c.pop.result c.pop.ensures.items c.requires.passes in
    let idle = subst (λ o. IfSome o (λ p. IsIdleAt c.args.self (pass_of p))) c.unwrap-last.ensures all.1 in
    ap (λ p. p.table) c.into_pass-pass.ensures ∙ idle.0

pub returns-clause-includes : goal.returns-clause-includes
returns-clause-includes g c =
    let told = c.take_in.ensures.told in
    let worker_of = g.B.Journaled.worker_of in
    let history = g.B.Journaled.history in
    let pass_of = g.P.IntoPass.pass_of in
    let takes = subst (λ p. Takes worker_of p (history c.hold-book.result.book.value) c.hold-book.new.pass) c.into_pass-pass.ensures c.hold-book.ensures.1 in
    subst (λ b. All (λ p. Includes worker_of (pass_of p) (history b)) c.args.passes.items) (sym c.into_inner.ensures)
    (all_closed worker_of pass_of _ c.unwrap-last.result c.hold-book.new.pass c.pop.new.self.items _ c.take_in.new.seat.me.0 takes
    (sym (ap (λ p. p.subject) c.pass.view_is) ∙ sym (ap (λ v. v.subject) told)) (sym (ap (λ p. p.seen) c.pass.view_is) ∙ sym (ap (λ v. v.seen) told)) (ap (λ v. v.told) told)
    (closes worker_of (λ b. history b.value) _ _ _ _ _ _ _ c.close_with-closed.ensures.values.2)
    (c.pop.ensures.items ∙ ap (λ o. c.pop.new.self.items ++ option_to_list o) c.unwrap-last.ensures))

pub returns-clause-workers : goal.returns-clause-workers
returns-clause-workers g c =
    let told = c.take_in.ensures.told in
    let worker_of = g.B.Journaled.worker_of in
    let history = g.B.Journaled.history in
    let sees = c.hold-book.ensures.1.sees in
    let holds = ap (λ v. v.holds) told ∙ (ap (λ p. p.holds) c.pass.view_is ∙ ap (λ p. p.holds) sees) in
    let seen = ap (λ v. v.seen) told ∙ (ap (λ p. p.seen) c.pass.view_is ∙ (ap (λ p. p.seen) sees ∙ sym (ap (λ b. (history b).journal) c.into_inner.ensures))) in
    all_below worker_of c.args.self _ _ _ c.self.view_is seen (closes_below worker_of (λ b. history b.value) _ _ _ _ _ _ _ holds c.close_with-closed.ensures.values.2)
