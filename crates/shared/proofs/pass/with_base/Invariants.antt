use Rattle.std.proofs.Common.{◌≡◌, ◌++◌, reverse, length, All}
use Rattle.shared.specs.Calls.{Viewed}
use Rattle.shared.proofs.pass.with_base.Given as goal

-- what is left, and what was made of the others from the last one on
abbrev pub invariant-loop-inner : goal.invariant-loop-inner
invariant-loop-inner l =
    (l.left.items ++ reverse l.passes.items ≡ l.fn.inner.items) × All (λ (p : Viewed). p.subject.base ≡ l.base) l.left.items

abbrev pub decreases-loop-inner : goal.decreases-loop-inner
decreases-loop-inner l = length l.left.items
