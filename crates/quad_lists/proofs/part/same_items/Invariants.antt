use Rattle.std.proofs.Common.{◌≡◌, ◌<◌, ℕ, length, get_or}
use Rattle.quad_lists.proofs.part.same_items.Given as goal

abbrev pub invariant-loop-place : goal.invariant-loop-place
invariant-loop-place g l = record {
  long : length l.items ≡ length l.others;
  alike : (d : g.row.T.Denot) (k : ℕ) → k < l.place → get_or l.items k d ≡ get_or l.others k d;
}
