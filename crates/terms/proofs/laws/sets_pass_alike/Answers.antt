use Rattle.terms.specs.TermLaws.{term_total, term_exact, text_total, text_exact}
use Rattle.terms.proofs.DataSetLaws.{quads_total, quads_exact, any-set_of}
use Rattle.terms.proofs.laws.sets_pass_alike.Goals as goal

pub returns-clause-quads : goal.returns-clause-quads
returns-clause-quads c = any-set_of quads_total quads_exact

pub returns-clause-names : goal.returns-clause-names
returns-clause-names c = any-set_of term_total term_exact

pub returns-clause-texts : goal.returns-clause-texts
returns-clause-texts c = any-set_of text_total text_exact
