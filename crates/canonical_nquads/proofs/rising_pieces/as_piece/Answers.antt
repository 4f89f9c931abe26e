use Rattle.std.proofs.Common.{refl}
use Rattle.canonical_nquads.proofs.RisingLaws.{one_piece, pieces_alone}
use Rattle.canonical_nquads.proofs.rising_pieces.as_piece.Goals as goal

pub returns : goal.returns
returns c lines h = pieces_alone c.args.made _ lines (one_piece c.push.new.self.items c.new-pieces.result.items c.args.made.text c.new-pieces.ensures.items c.in_ok-push.ensures.items) refl h
