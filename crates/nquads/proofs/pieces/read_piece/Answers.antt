use Rattle.nquads.proofs.PortionLaws.{counted_read}
use Rattle.nquads.proofs.pieces.read_piece.Goals as goal

pub returns : goal.returns
returns c = counted_read c.lines_are_read.ensures c.lists_grow_as_datasets.ensures c.args.bytes.now c.read_counted.result c.read_counted.ensures.read c.read_counted.ensures.ends
