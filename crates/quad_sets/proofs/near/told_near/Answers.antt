use Rattle.std.proofs.Common.{refl, sym, ap, ◌∙◌, arith}
use Rattle.std.proofs.lemmas.List.{get_or_read}
use Rattle.quad_sets.proofs.Lacking.{lacks_between}
use Rattle.quad_sets.proofs.near.told_near.Goals as goal

pub returns-then-place-set : goal.returns-then-place-set
returns-then-place-set g c =
    sym (lacks_between g.met.T.Ord.total g.met.T.Exact.exact c.args.value.now c.args.set.now c.args.place c.requires.set (c.if-not-is_above.ensures refl) c.requires.place (λ d h. absurd (omega arith)))

pub returns-in-Greater : goal.returns-in-Greater
returns-in-Greater g c =
    sym (lacks_between g.met.T.Ord.total g.met.T.Exact.exact c.args.value.now c.args.set.now c.args.place c.requires.set (c.if-not-is_above.ensures refl) c.requires.place
    (λ d h. ap (λ y. g.T.Ord.cmp y c.args.value.now) (sym (get_or_read c.args.set.now c.args.place c.index-set-place.result h c.index-set-place.is d)) ∙ sym c.in-Greater.ensures))
