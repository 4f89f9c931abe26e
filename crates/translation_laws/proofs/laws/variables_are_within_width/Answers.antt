use Rattle.translation_laws.proofs.VariableLaws.{within_width}
use Rattle.translation_laws.proofs.laws.variables_are_within_width.Goals as goal

pub returns : goal.returns
returns c = within_width
