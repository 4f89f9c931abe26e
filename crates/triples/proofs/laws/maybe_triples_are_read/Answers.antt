use Rattle.triples.proofs.TripleLaws.{maybe_found, maybe_again}
use Rattle.triples.proofs.laws.maybe_triples_are_read.Goals as goal

pub returns-clause-found : goal.returns-clause-found
returns-clause-found c = maybe_found

pub returns-clause-again : goal.returns-clause-again
returns-clause-again c = maybe_again
