use Rattle.translation_laws.proofs.VariableLaws.{below_exactly, beyond_otherwise, apart_by_number}
use Rattle.translation_laws.proofs.laws.numbers_of_where_are_below.Goals as goal

pub returns : goal.returns
returns c = record { below = below_exactly; beyond = beyond_otherwise; apart = apart_by_number }
