use Rattle.std.proofs.Common.{◌+◌, ◌∙◌, ap, length, arith, Some}
use Rattle.incarnations.specs.Statuses.{is_closed}
use Rattle.validate.specs.Below.{slot_at}
use Rattle.validate.specs.Kept.{shown}
use Rattle.slots.proofs.settling.settle.Goals as goal

pub settle_next-requires-clause-within : goal.settle_next-requires-clause-within
settle_next-requires-clause-within c =
    let lt = c.loop-low-test.true in
    let at = c.loop-low.invariant.low in
    let same = ap length c.loop-low.invariant.slots in
    let within = c.requires.within in
    omega (arith, lt, at, same, within)

pub settle_next-requires-clause-closed : goal.settle_next-requires-clause-closed
settle_next-requires-clause-closed c =
    let lt = c.loop-low-test.true in
    let at = c.loop-low.invariant.low in
    ap (λ xs. is_closed (Some (slot_at (shown xs) c.loop-low.kept.low).status)) c.loop-low.invariant.slots ∙ c.requires.closed c.loop-low.kept.low (omega (arith, at, lt))

pub loop-low-preserved : goal.loop-low-preserved
loop-low-preserved c = record {
  holds = c.in_ok-settle_next.ensures.holds;
  slots = c.in_ok-settle_next.ensures.slots ∙ c.loop-low.invariant.slots;
  low = c.in_ok-settle_next.ensures.ok ∙ ap (λ n. n + 1) c.loop-low.invariant.low;
}
