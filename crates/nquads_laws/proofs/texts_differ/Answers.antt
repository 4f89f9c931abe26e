use Rattle.nquads_laws.proofs.Again.{differ}
use Rattle.nquads_laws.proofs.OneTag.{same_of_named}
use Rattle.nquads_laws.proofs.texts_differ.Goals as goal

pub returns-clause-labels : goal.returns-clause-labels
returns-clause-labels c = differ c.first_line_is_ended.ensures c.one_dataset.ensures

pub returns-clause-one_tag : goal.returns-clause-one_tag
returns-clause-one_tag c d e tag p q a b same =
    same_of_named c.runs_are_longest.ensures d e tag p q a b (differ c.first_line_is_ended.ensures c.one_dataset.ensures d e tag tag p q same)
