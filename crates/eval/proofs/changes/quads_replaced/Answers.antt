use Rattle.std.proofs.Common.{ap, ◌∙◌}
use Rattle.sets.specs.Sets.{set_of, union, without}
use Rattle.datasets.specs.Dataset.{quad_order}
use Rattle.datasets.specs.Id.{id_order, id_total, id_exact, quad_total, quad_exact}
use Rattle.eval.proofs.Outside.{outside_set, union_set}
use Rattle.eval.proofs.changes.quads_replaced.Goals as goal

pub returns-clause-present : goal.returns-clause-present
returns-clause-present c =
    let R = quad_order id_order in
    let gone = c.as_slice.ensures.value ∙ c.in_ok-gone.ensures in
    let come = c.as_slice-2.ensures.value ∙ c.in_ok-come.ensures in
    c.in_ok-present.ensures
    ∙ (λ i. union R (without R (c.present.ensures.value i) (gone i)) (come i))
    ∙ ap (λ xs. union R xs (set_of R c.args.inserted.items)) (outside_set (quad_total id_total) c.args.changes.now.present c.args.deleted.items)
    ∙ union_set (quad_total id_total) (quad_exact id_order id_exact) (without R c.args.changes.now.present c.args.deleted.items) c.args.inserted.items

pub returns-clause-absent : goal.returns-clause-absent
returns-clause-absent c =
    let R = quad_order id_order in
    let gone = c.as_slice-3.ensures.value ∙ c.in_ok-gone.ensures in
    c.in_ok-absent.ensures
    ∙ (λ i. union R (c.absent.ensures.value i) (gone i))
    ∙ union_set (quad_total id_total) (quad_exact id_order id_exact) c.args.changes.now.absent c.args.deleted.items
