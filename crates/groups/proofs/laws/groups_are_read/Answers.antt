use Rattle.groups.proofs.Below.{Below}
use Rattle.groups.proofs.Parts.{group_found, group_takes}
use Rattle.groups.proofs.Again.{group_again}
use Rattle.groups.proofs.laws.groups_are_read.Goals as goal

pub returns-clause-found : goal.returns-clause-found
returns-clause-found c = group_found (record {
  name_found = c.graph_names_are_read.ensures.found;
  name_takes = c.graph_names_are_read.ensures.takes;
  triples_found = c.triples_are_read.ensures.found;
  triples_takes = c.triples_are_read.ensures.takes;
  constraint_found = c.constraints_are_read.ensures.found;
  constraint_takes = c.constraints_are_read.ensures.takes;
})

pub returns-clause-takes : goal.returns-clause-takes
returns-clause-takes c = group_takes (record {
  name_found = c.graph_names_are_read.ensures.found;
  name_takes = c.graph_names_are_read.ensures.takes;
  triples_found = c.triples_are_read.ensures.found;
  triples_takes = c.triples_are_read.ensures.takes;
  constraint_found = c.constraints_are_read.ensures.found;
  constraint_takes = c.constraints_are_read.ensures.takes;
})

pub returns-clause-again : goal.returns-clause-again
returns-clause-again c =
    let below : Below = record {
      name_found = c.graph_names_are_read.ensures.found;
      name_takes = c.graph_names_are_read.ensures.takes;
      triples_found = c.triples_are_read.ensures.found;
      triples_takes = c.triples_are_read.ensures.takes;
      constraint_found = c.constraints_are_read.ensures.found;
      constraint_takes = c.constraints_are_read.ensures.takes;
    } in
    group_again below (record {
      name_again = c.graph_names_are_read.ensures.again;
      triples_again = c.triples_are_read.ensures.again;
      triples_begin = c.triples_begin.ensures.begin;
      triples_end = c.triples_begin.ensures.ends;
      constraint_again = c.constraints_are_read.ensures.again;
    })
