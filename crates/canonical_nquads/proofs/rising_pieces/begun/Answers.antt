use Rattle.std.proofs.Common.{◌∙◌}
use Rattle.canonical_nquads.proofs.RisingLaws.{rising_none}
use Rattle.canonical_nquads.proofs.rising_pieces.begun.Goals as goal

pub returns : goal.returns
returns c = rising_none _ (c.reserve.ensures.items ∙ c.new-text.ensures.items)
