use Rattle.std.proofs.Common.{◌≡◌, true, sym, ap, ◌∙◌}
use Rattle.reads.specs.Reads.{Read}
use Rattle.reads.specs.Same.{read_eq}
use Rattle.reads.proofs.Equal.{read_eq-true, read_eq-same}
use Rattle.reads.proofs.same.same_reads.Goals as goal

same : (a b : Read) → a ≡ b → read_eq a b ≡ true
same a b e = ap (λ (x : Read). read_eq a x) (sym e) ∙ read_eq-same a

pub returns-clause-exact : goal.returns-clause-exact
returns-clause-exact c = (λ h. read_eq-true c.args.a.now c.args.b.now (sym c.equal_reads.ensures ∙ h), λ e. c.equal_reads.ensures ∙ same c.args.a.now c.args.b.now e)
