use Rattle.std.proofs.Common.{take}
use Rattle.terms.specs.Placed.{GoesOn}
use Rattle.quad_sets.specs.Pieces.{quads_in_pieces}
use Rattle.numbering.specs.Tables.{StandFor}
use Rattle.numbering.proofs.naming.place_quads.Given as goal

abbrev pub invariant-loop-piece : goal.invariant-loop-piece
invariant-loop-piece l = GoesOn l.fn.table l.table × StandFor l.fn.table l.table l.list.items (quads_in_pieces (take l.piece-index l.pieces))
