use Rattle.triples.proofs.QuadLaws.{quads_found, quads_takes, quads_again, quads_begin}
use Rattle.triples.proofs.laws.quads_are_read.Goals as goal

pub returns-clause-found : goal.returns-clause-found
returns-clause-found c = quads_found

pub returns-clause-takes : goal.returns-clause-takes
returns-clause-takes c = quads_takes

pub returns-clause-again : goal.returns-clause-again
returns-clause-again c = quads_again

pub returns-clause-begin : goal.returns-clause-begin
returns-clause-begin c = quads_begin
