use Rattle.std.proofs.Common.{◌≡◌, ◌≤◌, ◌<◌, ℕ, true}
use Rattle.canonical_nquads.specs.Tag.{is_taken}
use Rattle.canonical_nquads.proofs.tags.tag.Given as goal

abbrev pub invariant-loop-tag : goal.invariant-loop-tag
invariant-loop-tag l = (n : ℕ) → 1 ≤ n → n < l.tag → is_taken l.dataset.quads n ≡ true
