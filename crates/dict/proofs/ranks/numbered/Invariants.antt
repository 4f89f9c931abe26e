use Rattle.std.proofs.Common.{◌≡◌, ℕ, ◌≤◌, true, List, length, map, take, drop}
use Rattle.std.specs.List.{list_any}
use Rattle.std.specs.Vec.Iter.{into_iter_items}
use Rattle.terms.specs.declared.term.Term.{Term}
use Rattle.terms.specs.Placed.{term_at}
use Rattle.dict.specs.Ranks.{ArePlaced, IsNumberOf, term_in, is_at, taken, number_in}
use Rattle.dict.proofs.ranks.numbered.Given as goal

abbrev pub invariant-loop-entry : goal.invariant-loop-entry
invariant-loop-entry l =
    let list = l.fn.ordered.placed.items in
    record {
      can : (goal.iterator-loop-entry).can_next l.entry-iterator;
      finite : (goal.iterator-loop-entry).is_finite l.entry-iterator;
      rest : into_iter_items l.entry-iterator ≡ drop l.index list;
      within : l.index ≤ length list;
      found : l.found.items ≡ taken (map term_in (take l.index list));
      as_long : length l.ids.items ≡ l.length;
      numbers : (all : List Term) → ArePlaced all list → (place : ℕ) → list_any (is_at place) (take l.index list) ≡ true
          → IsNumberOf l.found.items (term_at all place) (number_in l.ids.items place);
    }
