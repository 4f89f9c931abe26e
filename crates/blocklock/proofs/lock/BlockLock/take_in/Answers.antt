use Rattle.std.proofs.Common.{rules, Some, ap, ◌∙◌, sym, arith}
use Rattle.std.proofs.lemmas.List.Elements.{All-pop}
use Rattle.blocklock.specs.Passes.{IsIdleAt}
use Rattle.blocklock.proofs.Keeps.{takes_in}
use Rattle.blocklock.proofs.Closing.{no_slots, taken_in, told_more}
use Rattle.blocklock.proofs.lock.BlockLock.take_in.Goals as goal

pub join_seat-requires : goal.join_seat-requires
join_seat-requires g c =
    let i = c.loop-next.invariant in
    let pass_of = g.P.IntoPass.pass_of in
    let idle = (All-pop (λ p. IsIdleAt c.args.self.now (pass_of p)) _ c.pop.new.self.items (Some c.in-Some.next) c.in-Some.ensures.items i.2).1 in
    let is = c.pass.view_is ∙ c.into_pass-pass.ensures in
    let w = c.pass.invariant in
    let first = ap (λ v. v.from) i.3 in
    let end = ap (λ v. v.until) i.3 in
    let from = w.from in
    let until = w.until in (
      search rules,
      ap (λ p. p.table.id) is ∙ ap (λ t. t.id) (idle.0 ∙ sym c.self.view_is),
      no_slots _ _ w (ap (λ p. p.holds) is ∙ idle.1),
      search rules,
      takes_in _ _ _ _ _ _ _ _ _ _ (ap (λ v. v.holds) i.3 ∙ c.requires.holds.0) (omega arith, omega arith) (omega arith, omega arith),
    )

pub loop-next-preserved : goal.loop-next-preserved
loop-next-preserved g c =
    let i = c.loop-next.invariant in
    let pass_of = g.P.IntoPass.pass_of in
    let is = ap (λ m. m.0) c.join_seat.ensures.2 in
    let view = c.pass.view_is ∙ c.into_pass-pass.ensures in (
      search rules,
      search rules,
      (All-pop (λ p. IsIdleAt c.args.self.now (pass_of p)) _ c.pop.new.self.items (Some c.in-Some.next) c.in-Some.ensures.items i.2).0,
      taken_in c.args.seat.now.me.0 c.loop-next.seat.me.0 c.join_seat.new.seat.me.0 c.pass.inside.seat.me.0 i.3 is,
      told_more pass_of c.pop.new.self.items c.loop-next.passes.items c.args.passes.items c.in-Some.next c.loop-next.seat.me.0 c.join_seat.new.seat.me.0 c.pass.inside.seat.me.0 c.in-Some.ensures.items is
          (sym (ap (λ p. p.worker) view) ∙ sym c.pass.invariant.from) (sym (ap (λ p. p.subject) view)) (sym (ap (λ p. p.seen) view)) (sym (ap (λ p. p.table.seats) view)) i.4,
    )
