use Rattle.translation_laws.proofs.FormedLaws.{run_well_formed}
use Rattle.translation_laws.proofs.laws.run_keeps_well_formed.Goals as goal

pub returns : goal.returns
returns c = run_well_formed c.answers_with_datasets.ensures
