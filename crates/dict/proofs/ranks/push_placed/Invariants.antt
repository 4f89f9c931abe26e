use Rattle.std.proofs.Common.{◌≡◌, List, ◌++◌}
use Rattle.std.specs.Vec.Iter.{into_iter_items}
use Rattle.terms.specs.declared.term.Term.{Term}
use Rattle.dict.specs.Ranks.{IsGathered}
use Rattle.dict.proofs.ranks.push_placed.Given as goal

abbrev pub invariant-loop-term : goal.invariant-loop-term
invariant-loop-term l =
    (goal.iterator-loop-term).can_next l.term-iterator × (goal.iterator-loop-term).is_finite l.term-iterator
    × ((done : List Term) × (done ++ into_iter_items l.term-iterator ≡ l.fn.terms.items)
    × ((all : List Term) → IsGathered all l.fn.placed.items → IsGathered (all ++ done) l.placed.items))
