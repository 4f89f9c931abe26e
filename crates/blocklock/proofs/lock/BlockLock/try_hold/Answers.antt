use Rattle.std.proofs.Common.{◌≡◌, rules, Some, refl, ap, sym, subst, ◌∙◌, ◌∷◌}
use Rattle.atomic_table.specs.Table.{rest}
use Rattle.blocklock.specs.Passes.{seated, Takes}
use Rattle.blocklock.proofs.Keeps.{takes_book, takes_it}
use Rattle.blocklock.proofs.lock.BlockLock.try_hold.Goals as goal

pub swap-found-requires : goal.swap-found-requires
swap-found-requires g c = (search rules, search rules, takes_book _ _ _ _ _ _ _ _ c.pass.invariant.told)

pub exchange-requires : goal.exchange-requires
exchange-requires g c =
    let t = c.swap-found.ensures.2.0 c.if-found-ne0.false in
    let slots = ap (λ m. m.1) t.has in
    (search rules, (Some t.book, slots ∙ ap (λ l. (0, Some t.book) ∷ rest l) (sym slots)))

pub returns-clause-held : goal.returns-clause-held
returns-clause-held g c =
    let t = c.swap-found.ensures.2.0 c.if-found-ne0.false in
    let history = g.B.Journaled.history in
    let same_id : c.exchange.new.seat.table_id ≡ c.pass.inside.seat.table_id = search rules in
    let same_view : c.exchange.new.seat.me.0 ≡ c.swap-found.new.seat.me.0 = search rules in
    let same_book : c.unwrap-book.result ≡ t.book = search rules in (
      refl,
      subst (λ p. Takes g.B.Journaled.worker_of p (history c.unwrap-book.result.value) (seated c.exchange.new.seat.table_id c.pass.inside.worker c.exchange.new.seat.me.0)) c.pass.view_is
          (takes_it g.B.Journaled.worker_of (λ b. history b.value) c.pass.inside.worker c.pass.inside.seat.table_id c.exchange.new.seat.table_id c.pass.inside.seat.me c.swap-found.new.seat.me
          c.exchange.new.seat.me.0 c.unwrap-book.result c.pass.invariant t same_id same_view same_book),
    )
