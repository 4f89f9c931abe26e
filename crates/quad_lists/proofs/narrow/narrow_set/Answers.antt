use Rattle.std.proofs.Common.{◌∙◌, sym, ap, map}
use Rattle.std.proofs.lemmas.Result.{IfOk-weaker}
use Rattle.sets.proofs.SetLaws.{set_of-set}
use Rattle.datasets.specs.Id.{id_order}
use Rattle.datasets.specs.Dataset.{quad_order}
use Rattle.quad_lists.specs.Known.{quad_of}
use Rattle.quad_lists.specs.KnownOrder.{known_total, known_exact}
use Rattle.quad_lists.proofs.Mapped.{map_set}
use Rattle.quad_lists.proofs.narrow.narrow_set.Goals as goal

pub returns-then-is_set : goal.returns-then-is_set
returns-then-is_set c =
    let known = c.args.known.now in
    IfOk-weaker c.from_slice.result _ _
    (λ set e. ap (map quad_of) (e ∙ sym (set_of-set known_total known_exact known (c.is_set.ensures.0 c.if-is_set.true))) ∙ map_set quad_of (quad_order id_order) known)
    c.from_slice.ensures.items

pub returns : goal.returns
returns c =
    IfOk-weaker c.set_from.result _ _
    (λ set e. ap (map quad_of) e ∙ map_set quad_of (quad_order id_order) c.args.known.now)
    c.set_from.ensures
