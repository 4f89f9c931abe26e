use Rattle.grammar.proofs.laws.quads_and_groups_are_read.Goals as goal

pub returns : goal.returns
returns c = record {
  quads_found = c.quads_are_read.ensures.found;
  quads_takes = c.quads_are_read.ensures.takes;
  quads_again = c.quads_are_read.ensures.again;
  quads_begin = c.quads_are_read.ensures.begin;
  group_found = c.groups_are_read.ensures.found;
  group_takes = c.groups_are_read.ensures.takes;
  group_again = c.groups_are_read.ensures.again;
}
