use Rattle.std.proofs.Common.{◌≡◌, ◌∙◌, sym, ap}
use Rattle.std.specs.Prelude.{filter}
use Rattle.std.proofs.lemmas.Result.{IfOk-weaker}
use denote.Enum.Bare.{same_true}
use Rattle.quad_lists.specs.contracts.key.Arrangement.{the_type}
use Rattle.datasets.specs.Id.{id_order}
use Rattle.datasets.specs.Dataset.{matches}
use Rattle.datasets.specs.declared.id.Id.{Id}
use Rattle.datasets.specs.declared.quad.Quad.{Quad}
use Rattle.quad_lists.specs.Keys.{arrangement_for}
use Rattle.quad_index.specs.Sorted.{Sorted}
use Rattle.quad_index.proofs.Sought.{part_has_all, exact_part}
use Rattle.quad_index.proofs.order.Order.matching.Goals as goal

pub returns-then-eq-clause-found : goal.returns-then-eq-clause-found
returns-then-eq-clause-found c =
    let its : c.args.self.now.arrangement ≡ arrangement_for c.args.pattern.now =
    sym (ap (λ (o : Sorted). o.arrangement) c.self.view_is) ∙ same_true the_type tt _ _ (sym c.eq.ensures ∙ c.if-eq.true) ∙ c.order_for.ensures in
    IfOk-weaker c.copied.result _ _ (λ found e. e ∙ c.part_for-part.ensures.entries ∙ sym (exact_part _ c.args.pattern.now c.args.self.now.quads its)) c.copied.ensures

pub returns-else-eq-clause-found : goal.returns-else-eq-clause-found
returns-else-eq-clause-found c =
    let fits = matches id_order c.args.pattern.now in
    IfOk-weaker c.matching.result _ _
    (λ found e. e ∙ ap (filter fits) c.part_for-part.ensures.entries ∙ part_has_all (λ (q : Quad Id). q) c.args.self.now.arrangement c.args.pattern.now fits (λ q h. h) c.args.self.now.quads)
    c.matching.ensures
