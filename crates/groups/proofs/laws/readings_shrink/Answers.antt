use Rattle.groups.proofs.Parts.{groups_shrink, items_shrink}
use Rattle.groups.proofs.laws.readings_shrink.Goals as goal

pub returns-clause-groups : goal.returns-clause-groups
returns-clause-groups c = groups_shrink (record {
  name_found = c.graph_names_are_read.ensures.found;
  name_takes = c.graph_names_are_read.ensures.takes;
  triples_found = c.triples_are_read.ensures.found;
  triples_takes = c.triples_are_read.ensures.takes;
  constraint_found = c.constraints_are_read.ensures.found;
  constraint_takes = c.constraints_are_read.ensures.takes;
})

pub returns-clause-items : goal.returns-clause-items
returns-clause-items c = items_shrink (record {
  name_found = c.graph_names_are_read.ensures.found;
  name_takes = c.graph_names_are_read.ensures.takes;
  triples_found = c.triples_are_read.ensures.found;
  triples_takes = c.triples_are_read.ensures.takes;
  constraint_found = c.constraints_are_read.ensures.found;
  constraint_takes = c.constraints_are_read.ensures.takes;
})
