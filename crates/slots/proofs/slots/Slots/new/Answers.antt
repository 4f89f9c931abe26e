use Rattle.std.proofs.Common.{◌≡◌, ◌∙◌, ap, replicate, arith}
use Rattle.version_overlay.specs.ChangeFilter.{may_cover}
use Rattle.incarnations.specs.Slots.{fresh_slot}
use Rattle.slots.proofs.Keeping.{fresh_slots, holds_fresh}
use Rattle.slots.proofs.slots.Slots.new.Goals as goal

pub invariant_of-result : goal.invariant_of-result
invariant_of-result c = holds_fresh c.loop-count.slots.items c.loop-count._count (may_cover c.new-2.result) c.in_ok-new.field-0 c.loop-count.invariant c.in_ok-new.ensures

pub returns : goal.returns
returns c =
    let whole : c.loop-count._count ≡ c.args.size = omega arith in
    fresh_slots c.loop-count.slots.items c.loop-count._count c.loop-count.invariant ∙ ap (λ n. replicate n fresh_slot) whole
