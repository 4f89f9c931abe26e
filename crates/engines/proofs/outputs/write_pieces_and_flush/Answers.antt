use Rattle.canonical_nquads.specs.Canonical.{text_of_pieces}
use Rattle.engines.proofs.Bytes.{whole_is_part, on_err}
use Rattle.engines.proofs.outputs.write_pieces_and_flush.Goals as goal

pub returns-clause-part : goal.returns-clause-part
returns-clause-part g c = on_err c.flush.result (whole_is_part _ _ _ (text_of_pieces c.args.pieces.items) c.in_ok-write_pieces.ensures.ok c.flush.ensures.bytes)
