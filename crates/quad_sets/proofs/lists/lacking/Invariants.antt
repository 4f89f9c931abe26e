use Rattle.std.proofs.Common.{◌≡◌, ◌≤◌, length, take, drop}
use Rattle.sets.specs.Sets.{without}
use Rattle.quad_sets.proofs.lists.lacking.Given as goal

-- of the members so far those that the set lacks stand first, and the others are as they were
abbrev pub invariant-loop-i : goal.invariant-loop-i
invariant-loop-i g l = record {
  within : l.kept ≤ l.i;
  place : l.place ≤ length l.set;
  long : length l.members.items ≡ length l.fn.members.items;
  first : take l.kept l.members.items ≡ without g.T.Ord.cmp (take l.i l.fn.members.items) l.set;
  others : drop l.i l.members.items ≡ drop l.i l.fn.members.items;
}
