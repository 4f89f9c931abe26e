use Rattle.std.proofs.Common.{◌∙◌, sym}
use Rattle.sets.specs.Sets.{has}
use Rattle.datasets.specs.Id.{id_order, id_total, id_exact, quad_exact, quad_total}
use Rattle.datasets.specs.Dataset.{quad_order}
use Rattle.version_overlay.proofs.Scanning.{none_of, none_in_common}
use Rattle.version_overlay.proofs.level.have_common.Goals as goal

pub returns-then-len : goal.returns-then-len
returns-then-len c none =
    none_of (quad_total id_total) (quad_exact id_order id_exact) (λ q. has (quad_order id_order) c.args.second.now q) c.args.first.now (sym c.is_any_of.ensures ∙ none)

pub returns-else-len : goal.returns-else-len
returns-else-len c none = none_in_common (quad_total id_total) (quad_exact id_order id_exact) c.args.first.now c.args.second.now (sym c.is_any_of-else-len.ensures ∙ none)
