use Rattle.triples.proofs.TripleLaws.{triples_found, triples_takes, triples_again}
use Rattle.triples.proofs.laws.triples_are_read.Goals as goal

pub returns-clause-found : goal.returns-clause-found
returns-clause-found c = triples_found

pub returns-clause-takes : goal.returns-clause-takes
returns-clause-takes c = triples_takes

pub returns-clause-again : goal.returns-clause-again
returns-clause-again c = triples_again
