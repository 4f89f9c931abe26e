use Rattle.triples.proofs.TripleLaws.{triples_begin, nothing_begins}
use Rattle.triples.proofs.laws.triples_begin.Goals as goal

pub returns-clause-begin : goal.returns-clause-begin
returns-clause-begin c = triples_begin

pub returns-clause-ends : goal.returns-clause-ends
returns-clause-ends c = nothing_begins
