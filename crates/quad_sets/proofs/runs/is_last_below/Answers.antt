use Rattle.std.proofs.Common.{◌≡◌, ◌-◌, ◌<◌, length, is_lt, sym, ap, ◌∙◌, arith}
use Rattle.std.specs.declared.cmp.Ordering.TheVariants.{Less}
use Rattle.std.proofs.lemmas.List.{get_or_read}
use Rattle.quad_sets.proofs.RunLaws.{all_less, is_less}
use Rattle.quad_sets.proofs.runs.is_last_below.Goals as goal

pub returns-then-len-gt0 : goal.returns-then-len-gt0
returns-then-len-gt0 g c = λ told.
    let some : 0 < length c.args.set.now = c.if-len-gt0.true in
    let less : g.T.Ord.cmp c.index-set-len.result c.args.value.now ≡ Less = is_less g.met.T.Ord.total (g.T.Ord.cmp c.index-set-len.result c.args.value.now) (ap is_lt (sym c.cmp.ensures) ∙ sym c.is_lt.ensures ∙ told) in
    all_less g.met.T.Ord.total c.args.value.now c.args.set.now (length c.args.set.now - 1) c.requires (omega (arith, some)) (λ d. ap (λ x. g.T.Ord.cmp x c.args.value.now) (sym (get_or_read c.args.set.now _ c.index-set-len.result (omega (arith, some)) c.index-set-len.is d)) ∙ less)
