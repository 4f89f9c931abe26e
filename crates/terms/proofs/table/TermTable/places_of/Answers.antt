use Rattle.std.specs.Prelude.{map}
use Rattle.std.proofs.Common.{ap, ◌∙◌, ◌++◌}
use Rattle.std.specs.List.{list_all}
use Rattle.std.specs.Vec.Iter.{into_iter_items}
use Rattle.terms.specs.Placed.{term_at, is_within}
use Rattle.terms.proofs.PlacedLaws.{further}
use Rattle.terms.proofs.UniteLaws.{one_more, one_more_within}
use Rattle.terms.proofs.table.TermTable.places_of.Goals as goal

pub loop-term-preserved : goal.loop-term-preserved
loop-term-preserved c =
    let rest = into_iter_items c.loop-term.term-iterator in
    let rest' = into_iter_items c.next.new.self in (
      tt,
      tt,
      further c.args.self.now c.loop-term.self c.place_of.new.self c.loop-term.invariant.2 c.in_ok-place.ensures.kept,
      ap (λ xs. map (term_at c.place_of.new.self) xs ++ rest') c.in_ok-push.ensures.items
          ∙ one_more c.loop-term.self c.place_of.new.self c.in_ok-place.ensures.kept c.loop-term.places.items c.in_ok-place.place c.in-Some.term c.args.others rest rest'
          c.loop-term.invariant.3 c.loop-term.invariant.4 c.in-Some.ensures.steps.0 c.in_ok-place.ensures.term,
      ap (list_all (is_within c.place_of.new.self)) c.in_ok-push.ensures.items
          ∙ one_more_within c.loop-term.self c.place_of.new.self c.in_ok-place.ensures.kept c.loop-term.places.items c.in_ok-place.place c.in-Some.term c.args.others rest rest'
          c.loop-term.invariant.3 c.loop-term.invariant.4 c.in-Some.ensures.steps.0 c.in_ok-place.ensures.within,
    )
