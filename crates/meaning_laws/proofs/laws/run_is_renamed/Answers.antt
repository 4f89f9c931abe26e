use Rattle.meaning_laws.proofs.Renames.{carries_run}
use Rattle.meaning_laws.proofs.laws.run_is_renamed.Goals as goal

pub returns : goal.returns
returns g c = carries_run
