use Rattle.canonical_nquads.proofs.RisingLaws.{one_piece}
use Rattle.canonical_nquads.proofs.canonical.in_one_piece.Goals as goal

pub returns : goal.returns
returns c = one_piece c.push.new.self.items c.new-pieces.result.items c.args.text c.new-pieces.ensures.items c.in_ok-push.ensures.items
