use Rattle.std.proofs.Common.{[]}
use Rattle.canonical_nquads.proofs.rising_pieces.rising_piece.Goals as goal

pub returns : goal.returns
returns c = c.in_ok-whole.ensures _ (c.in_ok-rises.ensures c.if-not-rises.false [] c.begun-made.ensures)
