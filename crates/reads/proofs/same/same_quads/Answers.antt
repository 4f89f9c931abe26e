use Rattle.std.proofs.Common.{ap, ◌∙◌}
use Rattle.std.specs.Cmp.{both_ways}
use Rattle.reads.specs.Same.{quads_eq}
use Rattle.reads.proofs.Equal.{quads_eq-true, quads_eq-same}
use Rattle.reads.proofs.same.same_quads.Goals as goal

pub returns : goal.returns
returns c =
    let a = c.args.a.now in
    let b = c.args.b.now in
    both_ways c.is_same.result (quads_eq a b)
    (λ so. ap (λ qs. quads_eq qs b) (c.is_same.ensures.0 so) ∙ quads_eq-same b)
    (λ so. c.is_same.ensures.1 (quads_eq-true a b so))
