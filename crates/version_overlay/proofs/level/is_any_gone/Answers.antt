use Rattle.std.proofs.Common.{sym, ap, ◌∙◌}
use Rattle.std.specs.Prelude.{filter}
use Rattle.sets.specs.Sets.{has}
use Rattle.datasets.specs.Id.{id_order, id_total, id_exact, quad_exact, quad_total}
use Rattle.datasets.specs.Dataset.{quad_order, matches}
use Rattle.version_overlay.specs.Settled.{part_or}
use Rattle.version_overlay.proofs.Scanning.{has-kept}
use Rattle.version_overlay.proofs.level.is_any_gone.Goals as goal

pub returns-in-Some : goal.returns-in-Some
returns-in-Some c none q e =
    let m = matches id_order c.args.pattern.now in
    c.have_common.ensures none q
    (ap (λ xs. has (quad_order id_order) xs q) c.quads.ensures
    ∙ has-kept (quad_total id_total) (quad_exact id_order id_exact) m c.in-Some.view.quads q
    (ap (λ o. has (quad_order id_order) (filter m (part_or c.args.scanned.now.dataset o).quads) q) (sym c.in-Some.is) ∙ e))
