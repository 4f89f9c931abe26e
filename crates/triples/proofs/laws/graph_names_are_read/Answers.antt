use Rattle.triples.proofs.NodeLaws.{graph_name_found, graph_name_takes, graph_name_again}
use Rattle.triples.proofs.laws.graph_names_are_read.Goals as goal

pub returns-clause-found : goal.returns-clause-found
returns-clause-found c = graph_name_found

pub returns-clause-takes : goal.returns-clause-takes
returns-clause-takes c = graph_name_takes

pub returns-clause-again : goal.returns-clause-again
returns-clause-again c = graph_name_again
