use Rattle.std.proofs.Common.{◌≡◌, ◌++◌, [], refl, ap, ◌∙◌}
use Rattle.std.proofs.lemmas.Result.{IfOk-weaker}
use Rattle.sets.specs.Sets.{union, without}
use Rattle.datasets.specs.Id.{id_order}
use Rattle.datasets.specs.Dataset.{quad_order}
use Rattle.reads.specs.Reads.{Delta}
use Rattle.delta.proofs.Composed.{composed}
use Rattle.reads.proofs.Rising.{rises-sets}
use Rattle.delta.proofs.delta.Delta.followed_by.Goals as goal

pub returns : goal.returns
returns c =
    let R = quad_order id_order in
    let first = c.args.self.now in
    let later = c.args.later.now in
    let own = c.in_ok-own.ensures ∙ c.there.ensures.value in
    let left = c.in_ok-left.ensures ∙ c.gone-2.ensures.value in
    let others = c.in_ok-copied_names.ensures ∙ c.gone-3.ensures.value in
    let present : c.in_ok-present.present ≡ union R (without R first.present later.absent) later.present =
    c.in_ok-present.ensures ∙ (λ i. union R (without R (c.present.ensures.value i) (c.absent.ensures.value i)) (c.present-2.ensures.value i)) in
    let absent : c.in_ok-absent.absent ≡ union R first.absent later.absent = c.in_ok-absent.ensures ∙ (λ i. union R (c.absent-2.ensures.value i) (c.absent-3.ensures.value i)) in
    let there : c.in_ok-there.there.items ≡ union id_order (without id_order first.there later.gone) later.there =
    c.in_ok-there.ensures ∙ (λ i. union id_order (without id_order (own i) (c.gone.ensures.value i)) (c.there-2.ensures.value i)) in
    let gone : c.in_ok-gone.gone.items ≡ union id_order first.gone later.gone = c.in_ok-gone.ensures ∙ (λ i. union id_order (left i) (others i)) in
    IfOk-weaker c.within.result _ _
    (λ both f.
    composed first later both (ap (λ (x : Delta). x.present) f ∙ present) (ap (λ (x : Delta). x.absent) f ∙ absent) (ap (λ (x : Delta). x.there) f ∙ there)
    (ap (λ (x : Delta). x.gone) f ∙ gone))
    c.within.ensures

pub within-requires-clause-there : goal.within-requires-clause-there
within-requires-clause-there c = (rises-sets [] _ [] (without id_order c.in_ok-own.own.items c.gone.result.now ++ c.there-2.result.now) refl c.in_ok-there.ensures).names

pub within-requires-clause-gone : goal.within-requires-clause-gone
within-requires-clause-gone c = (rises-sets [] _ [] (c.in_ok-left.left.items ++ c.in_ok-copied_names.field-0.items) refl c.in_ok-gone.ensures).names
