use Rattle.std.proofs.Common.{◌≡◌, true}
use Rattle.std.proofs.lemmas.List.Elements.{All-from_recursion}
use Rattle.nquads_laws.specs.WellFormed.{terms_of, is_written}
use Rattle.nquads_laws.proofs.SpelledForm as form
use Rattle.nquads_laws.proofs.spelled_is_well_formed.Goals as goal

pub returns-clause-formed : goal.returns-clause-formed
returns-clause-formed c = form.spelled_is_well_formed

pub returns-clause-written : goal.returns-clause-written
returns-clause-written c text d is = All-from_recursion (λ t. is_written t ≡ true) (terms_of d) (form.spelled_is_written text d is)
