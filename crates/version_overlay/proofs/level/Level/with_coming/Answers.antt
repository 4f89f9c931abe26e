use Rattle.std.proofs.Common.{◌++◌, [], ap, ◌∙◌}
use Rattle.sets.specs.Sets.{union, without}
use Rattle.datasets.specs.Id.{id_order}
use Rattle.datasets.specs.Dataset.{quad_order}
use Rattle.reads.specs.Reads.{View, Delta}
use Rattle.reads.proofs.Rising.{rises-sets}
use Rattle.version_overlay.proofs.Scanning.{scan_changed}
use Rattle.version_overlay.proofs.level.Level.with_coming.Goals as goal

pub from_sets-requires : goal.from_sets-requires
from_sets-requires c = rises-sets _ _ (without (quad_order id_order) c.into_list.result c.absent-going.result ++ c.args.coming.now) [] c.in_ok-quads.ensures c.new.ensures.items

pub returns : goal.returns
returns c d rising alike =
    let order = quad_order id_order in
    let going_is = c.absent-going.ensures.value ∙ ap (λ (x : Delta). x.absent) c.self.view_is in
    let list_is = c.into_list.ensures ∙ c.into_parts-quads.ensures.quads in
    scan_changed c.args.scanned.now.read c.args._pattern.now c.requires.scan c.args.self.now c.in_ok-part_of.field-0 d (c.in_ok-part_of.ensures ∙ alike) c.from_sets.result
    (ap (λ (v : View). v.quads) c.from_sets.ensures ∙ c.in_ok-quads.ensures ∙ (λ i. union order (without order (list_is i) (going_is i)) (c.requires.coming i)))
