use Rattle.std.proofs.Common.{◌≡◌, ℕ, ◌<◌, ◌+◌, length, get_or, take, drop}
use Rattle.stamp_tree.specs.declared.standing.Standing.{Standing}
use Rattle.stamp_tree.specs.Standings.{StandsFor}
use Rattle.stamp_tree.proofs.tree.pairs_of.Given as goal

abbrev pub invariant-loop-pair : goal.invariant-loop-pair
invariant-loop-pair l = record {
  as_many : length l.pairs.items ≡ l.pair;
  each : (k : ℕ) (d : Standing) → k < length l.pairs.items → StandsFor (get_or l.pairs.items k d) (take 2 (drop (k + k) l.list));
}
