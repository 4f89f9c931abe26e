use Rattle.std.proofs.Common.{◌≡◌, take, length}
use Rattle.terms.specs.Placed.{AreAt, GoesOn}
use Rattle.terms.proofs.table.TermTable.places_found.Given as goal

abbrev pub invariant-loop-term : goal.invariant-loop-term
invariant-loop-term l = record {
  on : GoesOn l.fn.self l.self;
  at : AreAt l.self l.places.items (take l.term-index l.terms);
  long : length l.places.items ≡ l.term-index;
}
