use Rattle.std.proofs.Common.{◌≡◌, ◌∙◌, sym, ap, length, arith}
use Rattle.std.specs.Prelude.{filter}
use Rattle.std.proofs.lemmas.Result.{IfOk-weaker}
use denote.Enum.Bare.{same_true}
use Rattle.quad_lists.specs.contracts.key.Arrangement.{the_type}
use Rattle.sets.specs.Sets.{set_of}
use Rattle.datasets.specs.Id.{id_order}
use Rattle.datasets.specs.Dataset.{quad_order, matches}
use Rattle.datasets.specs.declared.id.Id.{Id}
use Rattle.datasets.specs.declared.quad.Quad.{Quad}
use Rattle.quad_lists.specs.Keys.{arrangement_for}
use Rattle.quad_index.specs.Sorted.{Sorted}
use Rattle.quad_index.proofs.Sought.{part_has_all, exact_part}
use Rattle.quad_index.proofs.order.Order.matching_set.Goals as goal

pub returns-then-eq-clause-found : goal.returns-then-eq-clause-found
returns-then-eq-clause-found c =
    let its : c.args.self.now.arrangement ≡ arrangement_for c.args.pattern.now =
    sym (ap (λ (o : Sorted). o.arrangement) c.self.view_is) ∙ same_true the_type tt _ _ (sym c.eq.ensures ∙ c.if-eq.true) ∙ c.order_for.ensures in
    IfOk-weaker c.set.result _ _ (λ set e. e ∙ ap (set_of (quad_order id_order)) (c.part_for-part.ensures.entries ∙ sym (exact_part _ c.args.pattern.now c.args.self.now.quads its))) c.set.ensures

pub returns-then-eq-clause-looks : goal.returns-then-eq-clause-looks
returns-then-eq-clause-looks c its digits n =
    let count = ap length (c.part_for-part.ensures.entries ∙ sym (exact_part _ c.args.pattern.now c.args.self.now.quads its)) in
    let scan = c.part_for-part.ensures.looks digits n in
    omega arith

pub returns-in_ok-matching-clause-found : goal.returns-in_ok-matching-clause-found
returns-in_ok-matching-clause-found c =
    let fits = matches id_order c.args.pattern.now in
    c.into_set.ensures
    ∙ ap (set_of (quad_order id_order)) (c.in_ok-matching.ensures ∙ ap (filter fits) c.part_for-part.ensures.entries ∙ part_has_all (λ (q : Quad Id). q) c.args.self.now.arrangement c.args.pattern.now fits (λ q h. h) c.args.self.now.quads)
