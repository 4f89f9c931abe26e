use Rattle.std.proofs.Common.{sym, ap, ◌∙◌, arith}
use Rattle.std.proofs.lemmas.List.{get_or_read}
use Rattle.quad_sets.proofs.near.is_above.Goals as goal

pub returns-in-Less : goal.returns-in-Less
returns-in-Less g c t d h =
    ap (λ y. g.T.Ord.cmp y c.args.value.now) (sym (get_or_read c.args.set.now _ c.index-set-place.result (omega arith) c.index-set-place.is d)) ∙ sym c.in-Less.ensures
