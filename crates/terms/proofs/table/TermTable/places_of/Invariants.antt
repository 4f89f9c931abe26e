use Rattle.std.specs.Prelude.{map, true}
use Rattle.std.proofs.Common.{◌≡◌, ◌++◌}
use Rattle.std.specs.List.{list_all}
use Rattle.std.specs.Vec.Iter.{into_iter_items}
use Rattle.terms.specs.Placed.{term_at, is_within, GoesOn}
use Rattle.terms.proofs.table.TermTable.places_of.Given as goal

abbrev pub invariant-loop-term : goal.invariant-loop-term
invariant-loop-term l =
    (goal.iterator-loop-term).can_next l.term-iterator × (goal.iterator-loop-term).is_finite l.term-iterator × GoesOn l.fn.self l.self
    × (map (term_at l.self) l.places.items ++ into_iter_items l.term-iterator ≡ l.fn.others) × (list_all (is_within l.self) l.places.items ≡ true)
