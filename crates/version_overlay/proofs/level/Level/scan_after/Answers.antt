use Rattle.std.proofs.Common.{sym, ap, ◌∙◌}
use Rattle.std.specs.Prelude.{filter}
use Rattle.sets.specs.Sets.{has}
use Rattle.datasets.specs.Id.{id_order}
use Rattle.datasets.specs.Dataset.{quad_order, matches}
use Rattle.reads.specs.Reads.{Delta}
use Rattle.version_overlay.specs.Settled.{part_or}
use Rattle.version_overlay.proofs.Scanning.{scan_kept}
use Rattle.version_overlay.proofs.level.Level.scan_after.Goals as goal

pub returns-then-not-branch : goal.returns-then-not-branch
returns-then-not-branch c d rising alike =
    let coming_is = c.in_ok-coming.ensures ∙ ap (filter (matches id_order c.args.pattern.now)) (c.present.ensures.value ∙ ap (λ (x : Delta). x.present) c.self.view_is) in
    let going_is = c.absent-going.ensures.value ∙ ap (λ (x : Delta). x.absent) c.self.view_is in
    scan_kept c.args.scanned.now.read c.args.pattern.now c.requires c.args.self.now (part_or c.args.scanned.now.dataset c.args.part) d rising alike
    (sym coming_is ∙ sym c.as_slice.ensures.value ∙ c.is_empty.ensures.0 c.if-is_empty.true)
    (λ q e. ap (λ xs. has (quad_order id_order) xs q) (sym going_is) ∙ c.in_ok-is_any_gone.ensures c.if-not-branch.true q e)

pub with_coming-requires-clause-coming : goal.with_coming-requires-clause-coming
with_coming-requires-clause-coming c =
    c.as_slice-2.ensures.value ∙ c.in_ok-coming.ensures ∙ ap (filter (matches id_order c.args.pattern.now)) (c.present.ensures.value ∙ ap (λ (x : Delta). x.present) c.self.view_is)
