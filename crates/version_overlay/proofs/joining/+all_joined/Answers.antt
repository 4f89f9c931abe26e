use Rattle.std.proofs.Common.{arith, ap, ◌∙◌}
use Rattle.std.proofs.lemmas.Result.{IfOk-weaker}
use Rattle.reads.specs.Reads.{applied}
use Rattle.version_overlay.proofs.Changing.{one_is, halves_are}
use Rattle.version_overlay.proofs.joining.+all_joined.Goals as goal

pub returns-then-levels-eq1 : goal.returns-then-levels-eq1
returns-then-levels-eq1 t c =
    IfOk-weaker c.copied.result _ _
    (λ copy e d. ap (λ x. applied x d) (e ∙ c.change.ensures) ∙ one_is c.args.levels.now c.index-levels-0.result c.if-levels-eq1.true c.index-levels-0.is d) c.copied.ensures

pub all_joined-requires : goal.all_joined-requires
all_joined-requires t c = (omega (arith, c.requires, c.if-levels-eq1.false, c.split_at.ensures.front_len), omega (arith, c.requires, c.if-levels-eq1.false, c.split_at.ensures.front_len))

pub all_joined-requires-2 : goal.all_joined-requires-2
all_joined-requires-2 t c = (omega (arith, c.requires, c.if-levels-eq1.false, c.split_at.ensures.back_len), omega (arith, c.requires, c.if-levels-eq1.false, c.split_at.ensures.back_len))

pub returns : goal.returns
returns t c =
    let levels = c.args.levels.now in
    IfOk-weaker c.followed_by.result _ _
    (λ both e. halves_are _ levels c.split_at.result.0.now c.split_at.result.1.now c.split_at.ensures.front c.split_at.ensures.back c.in_ok-earlier.earlier c.in_ok-later.later both c.in_ok-earlier.ensures c.in_ok-later.ensures e) c.followed_by.ensures
