use Rattle.std.proofs.Common.{rules, sym, subst, arith}
use Rattle.blocklock.specs.Passes.{MayGive}
use Rattle.blocklock.proofs.Keeps.{gives_book, may_give}
use Rattle.blocklock.proofs.lock.Held.give.Goals as goal

pub store-requires : goal.store-requires
store-requires g c =
    let seat = c.pass.inside.seat in
    let book = c.args.self.book in
    let worker_of = g.B.Journaled.worker_of in
    let history = g.B.Journaled.history in
    let may = may_give worker_of (λ b. history b.value) c.pass.inside.worker seat.me seat.table_id book c.pass.invariant (subst (λ p. MayGive worker_of p (history book.value)) (sym c.pass.view_is) c.requires.1) in
    (search rules, search rules, gives_book worker_of (λ b. history b.value) _ _ _ _ _ _ _ _ _ c.exchange.ensures.3 (omega arith) may)
