use Rattle.std.proofs.Common.{◌≡◌, ◌++◌, ◌+◌, length}
use Rattle.std.specs.List.Sorted.{IsStrictlySortedBy}
use Rattle.sets.specs.Sets.{union, without}
use Rattle.quad_sets.proofs.runs.changed_in_runs.Given as goal

abbrev pub invariant-loop-change : goal.invariant-loop-change
invariant-loop-change g l =
    let cmp = g.T.Ord.cmp in
    record {
      rest : IsStrictlySortedBy cmp l.rest;
      gone : IsStrictlySortedBy cmp l.gone;
      more : IsStrictlySortedBy cmp l.more;
      done : l.list.items ++ union cmp (without cmp l.rest l.gone) l.more ≡ union cmp (without cmp l.fn.set l.fn.gone) l.fn.more;
    }

abbrev pub decreases-loop-change : goal.decreases-loop-change
decreases-loop-change g l = length l.gone + length l.more
