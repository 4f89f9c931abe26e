-- No event takes a commit back.
use Rattle.std.proofs.Common.{ℕ, ◌+◌, ◌≤◌, List, [], ◌∷◌, ◌++◌, Some, arith}
use Rattle.std.proofs.Math.Nat.{le_refl, le_trans}
use Rattle.incarnations.specs.declared.state.Event.{Event}
use Rattle.incarnations.specs.declared.state.Event.TheVariants.{Take, Read as ReadOf, Publish, Begin, Check, Commit, GiveUp}
use Rattle.incarnations.specs.declared.state.Reply.{Reply}
use Rattle.incarnations.specs.declared.state.Reply.TheVariants.{Taken, Answered, Published, Begun, Passed, Aborted, Committed, Given}
use Rattle.incarnations.specs.declared.state.Entry.{Entry}
use Rattle.block_machine.specs.Machine.{State, after, state_after}

-- one event
pub front_after : (s : State) (w : ℕ) (event : Event) (reply : Reply) → s.front ≤ (after s w event reply).front
front_after s w (Take i) (Taken n) = le_refl s.front
front_after s w (ReadOf i n read) (Answered answer) = le_refl s.front
front_after s w (Publish i n (Some finished)) Published = le_refl s.front
front_after s w (Begin i n) Begun = le_refl s.front
front_after s w (Check i n) Passed = le_refl s.front
front_after s w (Check i n) Aborted = le_refl s.front
front_after s w (Commit i) Committed = (let next : s.front ≤ s.front + 1 = omega arith in next)
front_after s w (GiveUp i n) Given = le_refl s.front
front_after s w event reply = le_refl s.front

-- a whole history
fronts_after : (s : State) (history : List Entry) → s.front ≤ (state_after s history).front
unfolding state_after
fronts_after s [] = le_refl s.front
fronts_after s (e ∷ es) =
    let next = after s e.worker e.event e.reply in
    le_trans (front_after s e.worker e.event e.reply) (fronts_after next es)

-- A longer history has no lower front.
pub front_never_falls : (s : State) (history more : List Entry) → (state_after s history).front ≤ (state_after s (history ++ more)).front
unfolding state_after
front_never_falls s [] more = fronts_after s more
front_never_falls s (e ∷ es) more = front_never_falls (after s e.worker e.event e.reply) es more
