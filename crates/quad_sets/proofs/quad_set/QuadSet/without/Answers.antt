use Rattle.std.specs.Prelude.{not}
use Rattle.std.proofs.Common.{ap, ◌∙◌}
use Rattle.std.proofs.lemmas.Result.{IfOk-weaker}
use Rattle.std.proofs.lemmas.List.{append-nil}
use Rattle.std.proofs.lemmas.List.Kept.{IsStrictlySortedBy-filter}
use Rattle.sets.specs.Sets.{has, set_of, union, without}
use Rattle.sets.proofs.SetLaws.{set_of-set}
use Rattle.datasets.specs.Id.{id_order, id_total, id_exact, quad_total, quad_exact}
use Rattle.datasets.specs.Dataset.{quad_order}
use Rattle.quad_sets.proofs.quad_set.QuadSet.without.Goals as goal

pub returns : goal.returns
returns c =
    let R = quad_order id_order in
    let left = without R c.args.quads.now c.args.gone.now in
    IfOk-weaker c.changed.result _ _
    (λ set h. h ∙ ap (union R left) c.new.ensures ∙ ap (set_of R) (append-nil left)
    ∙ set_of-set (quad_total id_total) (quad_exact id_order id_exact) left (IsStrictlySortedBy-filter R (λ q. not (has R c.args.gone.now q)) c.args.quads.now c.rises.ensures))
    c.changed.ensures
