-- What a gate is shown: what the pass of a worker has seen.
use Rattle.std.specs.Prelude.{◌≡◌, ℕ, List, [], ◌∷◌, Contains, Some, None}
use Rattle.incarnations.specs.declared.state.Event.{Event}
use Rattle.incarnations.specs.declared.state.Event.TheVariants.{Take, Publish}
use Rattle.incarnations.specs.declared.state.Reply.{Reply}
use Rattle.incarnations.specs.declared.state.Entry.{Entry}
use Rattle.scheduler.specs.declared.task.Task.TheVariants as task
use Rattle.shared.specs.declared.taking.Next.{Next}
use Rattle.shared.specs.Calls.{Viewed}

-- an event without the run that it publishes
abbrev pub without_run : Event → Event
without_run (Publish i n finished) = Publish i n None
without_run event = event

-- the pass has seen an entry of its worker with this event, but for the run that it published, and
-- with this reply
pub record HasSeen (p : Viewed) (event : Event) (reply : Reply) : Type 0 where
  pub whole : Event
  pub is : event ≡ without_run whole
  pub seen : Contains p.seen (record { worker = p.worker; event = whole; reply = reply })

-- the gate is shown an entry of this worker, which is the pass's, as the pass has seen it
pub record IsShown (p : Viewed) (worker : ℕ) (e : Entry) : Type 0 where
  pub own : worker ≡ p.worker
  pub of_worker : e.worker ≡ p.worker
  pub seen : HasSeen p e.event e.reply

-- where there is a reply, the pass has seen the event with the first one
abbrev pub FirstIsSeen : Viewed → Event → List Reply → Type 0
FirstIsSeen p event [] = Unit {0}
FirstIsSeen p event (reply ∷ replies) = HasSeen p event reply

-- the pass has seen these replies to the first of these events
abbrev pub AreSeen : Viewed → List Reply → List Event → Type 0
AreSeen p [] events = Unit {0}
AreSeen p (reply ∷ replies) [] = ⊥
AreSeen p (reply ∷ replies) (event ∷ events) = HasSeen p (without_run event) reply × AreSeen p replies events

-- what the pass had seen it has seen later too
abbrev pub StaysSeen : Viewed → Viewed → Type 0
StaysSeen old new = (event : Event) (reply : Reply) → HasSeen old event reply → HasSeen new event reply

-- where a request was taken, the pass has seen that
abbrev pub TakeIsSeen : Viewed → Next → Type 0
TakeIsSeen p next = (i : ℕ) (reply : Reply) → next.task ≡ Some (task.Take i) → next.taken ≡ Some reply → HasSeen p (Take i) reply
