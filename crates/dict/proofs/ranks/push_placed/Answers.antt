use Rattle.std.proofs.Common.{[], ◌∷◌, ◌++◌, List, sym, ap, subst, ◌∙◌}
use Rattle.std.proofs.lemmas.List.{append-nil, append_assoc, nil_from_length}
use Rattle.std.specs.Vec.Iter.{into_iter_items}
use Rattle.terms.specs.declared.term.Term.{Term}
use Rattle.dict.specs.declared.ranks.Placed.{Placed}
use Rattle.dict.specs.Ranks.{IsGathered}
use Rattle.dict.proofs.Gathering.{gathered_next}
use Rattle.dict.proofs.ranks.push_placed.Goals as goal

pub loop-term-init : goal.loop-term-init
loop-term-init c = (
  tt,
  tt,
  (
    [],
    c.into_iter-term-iterator.ensures.into_iter_gives.0,
    λ all h.
        subst (λ (ts : List Term). IsGathered ts c.reserve.new.self.items) (sym (append-nil all)) (subst (λ (xs : List Placed). IsGathered all xs) (sym c.in_ok-reserve.ensures.items) h),
  ),
)

pub loop-term-preserved : goal.loop-term-preserved
loop-term-preserved c =
    let done = c.loop-term.invariant.2 in (
      tt,
      tt,
      (
        done.0 ++ c.in-Some.term ∷ [],
        append_assoc done.0 (c.in-Some.term ∷ []) (into_iter_items c.next.new.self) ∙ ap (λ (ts : List Term). done.0 ++ ts) (sym c.in-Some.ensures.steps.0) ∙ done.1,
        λ all h. gathered_next all done.0 c.loop-term.placed.items c.push.new.self.items _ (c.in_ok-place.ensures ∙ c.len-in-loop-term.ensures ∙ c.loop-term.placed.ok.0) c.in_ok-push.ensures.items (done.2 all h),
      ),
    )

pub returns : goal.returns
returns c all h =
    let done = c.loop-term.invariant.2 in
    subst (λ (ts : List Term). IsGathered (all ++ ts) c.loop-term.placed.items)
    (sym (append-nil done.0) ∙ ap (λ (ts : List Term). done.0 ++ ts) (sym (nil_from_length (into_iter_items c.loop-term.term-iterator) (sym c.loop-term.term-iterator.rest.ok.0 ∙ c.in-None.ensures.steps.0))) ∙ done.1) (done.2 all h)
