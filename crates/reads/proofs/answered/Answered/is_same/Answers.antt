use Rattle.std.proofs.Common.{◌≡◌, true, sym, ap, ◌∙◌}
use Rattle.reads.specs.Reads.{Answer}
use Rattle.reads.specs.Same.{answer_eq}
use Rattle.reads.proofs.Equal.{answer_eq-true, answer_eq-same}
use Rattle.reads.proofs.answered.Answered.is_same.Goals as goal

same : (a b : Answer) → a ≡ b → answer_eq a b ≡ true
same a b e = ap (λ (x : Answer). answer_eq a x) (sym e) ∙ answer_eq-same a

pub returns-clause-exact : goal.returns-clause-exact
returns-clause-exact c = (λ h. answer_eq-true c.args.self.now c.args.other.now (sym c.equals.ensures ∙ h), λ e. c.equals.ensures ∙ same c.args.self.now c.args.other.now e)
