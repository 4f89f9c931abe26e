-- How far a request has come, and what an event of one incarnation is refused for.
use Rattle.std.specs.Prelude.{ℕ, Bool, true, false, ◌==◌, if◌then◌else◌, nat_le, Option, Some, None}
use Rattle.incarnations.specs.declared.state.Status.{Status}
use Rattle.incarnations.specs.declared.state.Status.TheVariants.{Ready, Executing, Executed, Committed as HasCommitted}
use Rattle.incarnations.specs.declared.state.Event.{Event}
use Rattle.incarnations.specs.declared.state.Event.TheVariants.{Read}
use Rattle.incarnations.specs.declared.state.Reply.{Reply}
use Rattle.incarnations.specs.declared.state.Reply.TheVariants.{Answered, Stale, NotYours}

-- whether a request is committed, or is none of the block
abbrev pub is_closed : Option Status → Bool
is_closed (Some (HasCommitted n)) = true
is_closed (Some (Ready n)) = false
is_closed (Some (Executing n by)) = false
is_closed (Some (Executed n)) = false
is_closed None = true

abbrev pub is_executed : Status → Bool
is_executed (Executed n) = true
is_executed (Ready n) = false
is_executed (Executing n by) = false
is_executed (HasCommitted n) = false

-- whether a stamp stands, and this change is no later
abbrev pub stands_after : Option ℕ → ℕ → Bool
stands_after None latest = false
stands_after (Some moment) latest = nat_le latest moment

-- a reply that is no answer to a read
abbrev pub IsPlain : Reply → Type 0
IsPlain (Answered answer) = ⊥
IsPlain _ = Unit {0}

-- a reply that such an event can have: only a read is answered
abbrev pub IsTold : Event → Reply → Type 0
IsTold (Read i n read) reply = Unit {0}
IsTold _ reply = IsPlain reply

-- an event of this incarnation of a request that this worker executes: the refusal, if there is one
abbrev pub execution_refusal : Option Status → ℕ → ℕ → Option Reply
execution_refusal (Some (Executing n by)) incarnation worker =
    if n == incarnation then (if by == worker then None else Some NotYours) else Some Stale
execution_refusal (Some (Ready n)) incarnation worker = Some Stale
execution_refusal (Some (Executed n)) incarnation worker = Some Stale
execution_refusal (Some (HasCommitted n)) incarnation worker = Some Stale
execution_refusal None incarnation worker = Some Stale

-- an event of this incarnation of a request that is executed and not committed: the refusal, if
-- there is one
abbrev pub executed_refusal : Option Status → ℕ → Option Reply
executed_refusal (Some (Executed n)) incarnation = if n == incarnation then None else Some Stale
executed_refusal (Some (Executing n by)) incarnation = Some Stale
executed_refusal (Some (Ready n)) incarnation = Some Stale
executed_refusal (Some (HasCommitted n)) incarnation = Some Stale
executed_refusal None incarnation = Some Stale
