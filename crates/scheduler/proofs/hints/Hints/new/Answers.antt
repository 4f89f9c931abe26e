use Rattle.std.proofs.Common.{◌≡◌, ◌<◌, ◌+◌, length, map, ap, sym, ◌∙◌, subst, refl, arith, rules}
use Rattle.std.proofs.Math.Seq.{map-set_same}
use Rattle.std.proofs.lemmas.List.{length-set}
use Rattle.std.proofs.lemmas.List.Elements.{All-set}
use Rattle.std.proofs.lemmas.Option.{slice_get_within}
use Rattle.crossbeam_deque.specs.Handles.{stealer_deque, worker_deque}
use Rattle.scheduler.specs.declared.hints.Hints.{Hints}
use Rattle.scheduler.specs.Hints.{IsNew, LooksFrom, deques_of}
use Rattle.scheduler.proofs.Seats.{set_next}
use Rattle.scheduler.proofs.hints.Hints.new.Goals as goal

pub loop-place-preserved : goal.loop-place-preserved
loop-place-preserved c =
    let all = c.loop-place.all.items in let i = c.loop-place.place in let old = c.index_mut.result.now in
    let new : Hints = record { own = old.own; others = c.in_ok-all-2.field-0 } in
    let within : i < length all = search rules in
    let inv = c.loop-place.invariant in (
      length-set all i new ∙ inv.0,
      All-set IsNew all i new (subst IsNew (sym c.index_mut.ensures.value) (inv.1 i old within)) inv.1,
      map-set_same (λ (h : Hints). worker_deque h.own) all i new old (ap (λ (h : Hints). worker_deque h.own) c.index_mut.ensures.value) ∙ inv.2,
      set_next (LooksFrom (map stealer_deque c.in_ok-all.sources.items)) all i new within inv.3 (subst (λ xs. LooksFrom (map stealer_deque xs) i new) c.deref.ensures.value c.in_ok-all-2.ensures),
    )

pub returns-clause-everywhere : goal.returns-clause-everywhere
returns-clause-everywhere c =
    let all = c.loop-place.all.items in
    λ i h at. subst (λ ds. LooksFrom ds i h) (sym c.loop-place.invariant.2) (c.loop-place.invariant.3 i h (omega (arith, slice_get_within all i h at)) at)
