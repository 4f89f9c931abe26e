use Rattle.asking.proofs.Notes.{goes_all}
use Rattle.asking.proofs.noting.ask_all.Goals as goal

pub returns-clause-goes : goal.returns-clause-goes
returns-clause-goes g c allowed h = goes_all c.ask_all.ensures allowed h
