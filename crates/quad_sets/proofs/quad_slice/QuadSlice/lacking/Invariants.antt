use Rattle.std.proofs.Common.{◌≡◌, ◌≤◌, length, take, drop}
use Rattle.sets.specs.Sets.{without}
use Rattle.datasets.specs.Id.{id_order}
use Rattle.datasets.specs.Dataset.{quad_order}
use Rattle.quad_sets.proofs.quad_slice.QuadSlice.lacking.Given as goal

-- of the quads so far those that the set lacks stand first, and the others are as they were
abbrev pub invariant-loop-i : goal.invariant-loop-i
invariant-loop-i l = record {
  within : l.kept ≤ l.i;
  place : l.place ≤ length l.self;
  long : length l.quads.items ≡ length l.fn.quads.items;
  first : take l.kept l.quads.items ≡ without (quad_order id_order) (take l.i l.fn.quads.items) l.self;
  others : drop l.i l.quads.items ≡ drop l.i l.fn.quads.items;
}
