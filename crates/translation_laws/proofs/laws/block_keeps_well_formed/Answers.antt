use Rattle.translation_laws.proofs.BlockLaws.{block_well_formed, first_well_formed}
use Rattle.translation_laws.proofs.laws.block_keeps_well_formed.Goals as goal

pub returns : goal.returns
returns c = record { whole = block_well_formed c.answers_with_datasets.ensures; first = first_well_formed c.answers_with_datasets.ensures }
