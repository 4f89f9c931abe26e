-- What later events leave of a state.
use Rattle.std.specs.Prelude.{◌≡◌, ◌⊎◌, ℕ, ◌<◌, ◌≤◌}
use Rattle.incarnations.specs.Slots.{Slot}
use Rattle.validate.specs.Below.{slot_at}
use Rattle.block_machine.specs.Machine.{State}

-- a slot has the delta that it had, or its change counts above this clock
abbrev pub Since : ℕ → (was now : Slot) → Type 0
Since clock was now = ((now.delta ≡ was.delta) × (now.changed ≡ was.changed)) ⊎ (clock < now.changed)

-- a later state: the clock has not fallen, and each request has its delta, or a change since
pub record Later (s t : State) : Type 0 where
  pub clock : s.clock ≤ t.clock
  pub each : (j : ℕ) → Since s.clock (slot_at s.slots j) (slot_at t.slots j)
