use Rattle.std.proofs.Common.{◌<◌, ◌∙◌, sym, subst, ap, arith}
use Rattle.std.proofs.lemmas.List.{length-set, nil_from_length}
use Rattle.std.specs.Ordering.{is_eq}
use Rattle.std.specs.Vec.Iter.{into_iter_items}
use Rattle.dict.specs.declared.ranks.Placed.{Placed}
use Rattle.dict.proofs.Numbering.{numbers_after, all_seen, taken_more, taken_all}
use Rattle.dict.proofs.StepLaws.{same_as_last, head_of_rest, no_rest}
use Rattle.dict.proofs.ranks.numbered.Goals as goal

pub index-requires : goal.index-requires
index-requires c =
    let list = c.args.ordered.placed.items in
    let at = head_of_rest list c.loop-entry.index c.in-Some.entry (into_iter_items c.next.new.self) (sym c.loop-entry.invariant.rest ∙ c.in-Some.ensures.steps.0) in
    omega (arith, at.0, c.requires.steps.as_many, c.args.ordered.steps.ok.0)

pub next_number-requires : goal.next_number-requires
next_number-requires c w =
    let list = c.args.ordered.placed.items in
    let at = head_of_rest list c.loop-entry.index c.in-Some.entry (into_iter_items c.next.new.self) (sym c.loop-entry.invariant.rest ∙ c.in-Some.ensures.steps.0) in
    c.is_eq-is_same.ensures ∙ ap is_eq c.index.ensures
    ∙ same_as_last list c.args.ordered.steps.items c.loop-entry.index c.in-Some.entry c.loop-entry.found.items c.index.result.now c.requires.sorted c.requires.steps
    at.0 at.1 c.loop-entry.invariant.found w

pub loop-entry-preserved : goal.loop-entry-preserved
loop-entry-preserved c =
    let list = c.args.ordered.placed.items in
    let q = c.in-Some.entry in
    let head = head_of_rest list c.loop-entry.index q (into_iter_items c.next.new.self) (sym c.loop-entry.invariant.rest ∙ c.in-Some.ensures.steps.0) in
    let at : q.place < c.args.length = subst (λ (p : Placed). p.place < c.args.length) (sym head.1) (c.requires.places c.loop-entry.index q head.0) in
    record {
      can = tt;
      finite = tt;
      rest = head.2;
      within = omega (arith, head.0);
      found = taken_more list c.loop-entry.index q c.loop-entry.found.items c.next_number.new.found.items head.0 head.1 c.loop-entry.invariant.found c.in_ok-id.ensures.found;
      as_long = length-set c.loop-entry.ids.items q.place c.in_ok-id.id ∙ c.loop-entry.invariant.as_long;
      numbers = λ all placed place seen. numbers_after list c.loop-entry.index q c.loop-entry.found.items c.next_number.new.found.items c.loop-entry.ids.items c.in_ok-id.id
          head.0 head.1 (subst (λ n. q.place < n) (sym c.loop-entry.invariant.as_long) at) c.in_ok-id.ensures.found c.in_ok-id.ensures.number all placed place
          (c.loop-entry.invariant.numbers all placed place) seen;
    }

pub returns-clause-terms : goal.returns-clause-terms
returns-clause-terms c =
    let list = c.args.ordered.placed.items in
    let none = nil_from_length (into_iter_items c.loop-entry.entry-iterator) (sym c.loop-entry.entry-iterator.rest.ok.0 ∙ c.in-None.ensures.steps.0) in
    taken_all list c.loop-entry.index c.loop-entry.found.items (no_rest list c.loop-entry.index (sym c.loop-entry.invariant.rest ∙ none)) c.loop-entry.invariant.within
    c.loop-entry.invariant.found

pub returns-clause-numbers : goal.returns-clause-numbers
returns-clause-numbers c all placed place within =
    let list = c.args.ordered.placed.items in
    let none = nil_from_length (into_iter_items c.loop-entry.entry-iterator) (sym c.loop-entry.entry-iterator.rest.ok.0 ∙ c.in-None.ensures.steps.0) in
    c.loop-entry.invariant.numbers all placed place
    (all_seen list c.loop-entry.index place (no_rest list c.loop-entry.index (sym c.loop-entry.invariant.rest ∙ none)) c.loop-entry.invariant.within (placed.all place within))
