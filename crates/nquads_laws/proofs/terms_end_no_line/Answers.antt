use Rattle.nquads_laws.proofs.TermTexts.{piece_term}
use Rattle.nquads_laws.proofs.terms_end_no_line.Goals as goal

pub returns-clause-utf8 : goal.returns-clause-utf8
returns-clause-utf8 c tag t is = (piece_term tag t is).utf8

pub returns-clause-inner : goal.returns-clause-inner
returns-clause-inner c tag t is = (piece_term tag t is).inner
