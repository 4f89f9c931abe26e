use Rattle.translation_laws.proofs.BlockLaws.{block_free, first_free}
use Rattle.translation_laws.proofs.laws.tag_stays_free.Goals as goal

pub returns : goal.returns
returns c = record { whole = block_free; first = first_free }
