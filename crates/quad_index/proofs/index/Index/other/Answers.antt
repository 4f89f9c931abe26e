use Rattle.std.proofs.Common.{◌≡◌, ◌≤◌, inl, inr, arith, sym, subst, ◌∙◌, ap, get_or, length}
use Rattle.std.proofs.lemmas.Bool.{cases_lt}
use Rattle.std.proofs.lemmas.List.{get_or_default}
use Rattle.std.specs.List.{Contains}
use denote.Enum.Bare.{same_false}
use Rattle.quad_index.specs.declared.order.Order.{Order}
use Rattle.quad_lists.specs.contracts.key.Arrangement.{the_type}
use Rattle.quad_index.specs.Indexed.{Indexed}
use Rattle.quad_index.proofs.Alike.{kept_first}
use Rattle.quad_index.proofs.index.Index.other.Goals as goal

pub loop-order-preserved : goal.loop-order-preserved
loop-order-preserved c k d lt e =
    let orders = c.deref-order-items.result.now in
    let n = c.loop-order.order-index in
    let test = c.loop-order-test.true in
    elim (cases_lt k n) [
      | inl below ↦ c.loop-order.invariant k d below e
      | inr least ↦
          let at : k ≡ n = omega arith in
          let item : c.order-item.result ≡ get_or orders k d = c.order-item.is ∙ get_or_default orders n c.order-item.result d test ∙ ap (λ j. get_or orders j d) (sym at) in
          same_false the_type c.arrangement.result c.args.arrangement (sym c.eq.ensures ∙ c.if-eq.false) (c.arrangement.ensures ∙ ap (λ (o : Order). o.arrangement) item ∙ e)
    ]

pub returns-clause-none : goal.returns-clause-none
returns-clause-none c contains =
    let kept = subst (λ (i : Indexed). Contains i.orders c.args.arrangement) (sym c.self.view_is) contains in
    let ends : length c.self.inside.others.items ≤ c.loop-order.order-index = subst (λ n. n ≤ c.loop-order.order-index) (ap length c.deref-order-items.ensures.value) c.loop-order-test.false in
    kept_first c.self.inside.others.items c.loop-order.order-index c.args.arrangement ends
    (λ k d lt e. c.loop-order.invariant k d lt (ap (λ orders. (get_or orders k d).arrangement) c.deref-order-items.ensures.value ∙ e)) kept
