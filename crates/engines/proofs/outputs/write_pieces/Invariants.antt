use Rattle.std.proofs.Common.{◌≡◌, ◌++◌, List, ℕ}
use Rattle.std.specs.Io.KnownBytes.{Appends}
use Rattle.std.specs.Vec.Iter.{into_iter_items}
use Rattle.canonical_nquads.specs.Canonical.{text_of_pieces}
use Rattle.engines.proofs.outputs.write_pieces.Given as goal

abbrev pub invariant-loop-piece : goal.invariant-loop-piece
invariant-loop-piece g l =
    (goal.iterator-loop-piece g).can_next l.piece-iterator × (goal.iterator-loop-piece g).is_finite l.piece-iterator
    × record {
      done : List ℕ;
      written : Appends (g.W.Write.contents l.fn.writer.inner) (g.W.Write.contents l.writer.inner) done;
      left : text_of_pieces l.fn.pieces.items ≡ done ++ text_of_pieces (into_iter_items l.piece-iterator);
      count : l.writer.failures ≡ l.fn.writer.failures;
    }
