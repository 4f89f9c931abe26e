use Rattle.translation_laws.proofs.RowLaws.{rows_of_width, unbound_beyond}
use Rattle.translation_laws.proofs.laws.variables_beyond_width_are_unbound.Goals as goal

pub returns : goal.returns
returns g c = record { rows = rows_of_width; unbound = unbound_beyond }
