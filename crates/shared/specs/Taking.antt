-- What a worker can do next, and to take a request at once where it is that.
use Rattle.std.specs.Prelude.{◌≡◌, ◌⊎◌, ℕ, Bool, List, [], ◌∷◌, ◌++◌, Option, Some, None, nat_lt, if◌then◌else◌, Result, Ok, Err}
use Rattle.incarnations.specs.declared.state.Event.{Event}
use Rattle.incarnations.specs.declared.state.Event.TheVariants.{Take}
use Rattle.incarnations.specs.declared.state.Reply.{Reply}
use Rattle.incarnations.specs.declared.state.Entry.{Entry}
use Rattle.block_machine.specs.Machine.{IsAllowed}
use Rattle.block_machine.specs.Serial.{IsHistory}
use Rattle.book.specs.Run.{Run, state_of, setting_of}
use Rattle.blocklock.specs.Passes.{Watches, given}
use Rattle.scheduler.specs.Task.{IsNext}
use Rattle.scheduler.specs.declared.task.Task.{Task}
use Rattle.scheduler.specs.declared.task.Task.TheVariants as task
use Rattle.shared.specs.declared.taking.Next.{Next}
use Rattle.shared.specs.Calls.{Viewed, owner, history_of, run_of, entry, Answers, Unmade}
use Rattle.shared.specs.InTurn.{Adds, Went}

-- the event that a worker makes at once where this is what it can do next: it takes a request below
-- a place
abbrev pub taking : ℕ → Option Task → Option Event
taking most (Some (task.Take i)) = if nat_lt i most then Some (Take i) else None
taking most (Some (task.Commit i)) = None
taking most (Some (task.Begin i n)) = None
taking most (Some (task.Check i n)) = None
taking most None = None

-- The request was taken, where it could do this next.
pub record TookIt (old new : Viewed) (most : ℕ) (next : Option Task) (reply : Reply) : Type 0 where
  pub event : Event
  pub is : taking most next ≡ Some event
  pub answers : Answers old new event reply
  pub before : List Entry
  pub last : new.seen ≡ before ++ entry old.worker event reply ∷ []
  pub could : IsNext (state_of (run_of old.subject before)) next

-- It can do this next where all stands that the pass has seen now, and that is to take no request
-- below the place.
pub record TookNone (old new : Viewed) (most : ℕ) (next : Option Task) : Type 0 where
  pub is : taking most next ≡ None
  pub watches : Watches owner old new
  pub lawful : IsHistory (setting_of (run_of new.subject new.seen)) new.seen
  pub can : IsNext (state_of (run_of new.subject new.seen)) next

abbrev pub TookBy : Viewed → Viewed → ℕ → Option Task → Option Reply → Type 0
TookBy old new most next (Some reply) = TookIt old new most next reply
TookBy old new most next None = TookNone old new most next

-- a call for what can be done next, with the reply to the take if one was made
abbrev pub Took : {E : Type 0} → Viewed → Viewed → ℕ → Result Next E → Type 0
Took old new most (Ok next) = TookBy old new most next.task next.taken
Took old new most (Err e) = Unmade old new

-- what a worker that holds a book could do next, and the book with the take of it
pub record TookFrom (book book' : Run) (worker most : ℕ) (next : Option Task) (reply : Reply) : Type 0 where
  pub event : Event
  pub is : taking most next ≡ Some event
  pub allowed : IsAllowed book.base (state_of book) worker event reply
  pub made : book' ≡ record book { history = book.history ++ entry worker event reply ∷ [] }
  pub lawful : IsHistory (setting_of book') book'.history

-- Events in turn, and then what can be done next, in one hold.
abbrev pub AddsAndTakes : {E : Type 0} → Viewed → Viewed → List Event → List Reply → List Reply → ℕ → Result (Bool × Next) E → Type 0
AddsAndTakes {E} old new events before after most (Ok (whole, next)) =
    (mid : Viewed) × Adds {E = E} old mid events before after (Ok whole) × Took {E = E} mid new most (Ok next)
AddsAndTakes {E} old new events before after most (Err e) =
    Adds {E = E} old new events before after (Err e) ⊎ ((mid : Viewed) × (whole : Bool) × Adds {E = E} old mid events before after (Ok whole) × Unmade mid new)

-- The same while a pass holds a book, which the events leave in the middle.
abbrev pub WentAndTook : {E : Type 0} → Viewed → Run → Run → List Event → List Reply → List Reply → ℕ → Result (Bool × Next) E → Type 0
WentAndTook {E} p book book' events before after most (Ok (whole, next)) =
    (mid : Run) × Went {E = E} p book mid events before after (Ok whole) × Took {E = E} (given p (history_of mid)) (given p (history_of book')) most (Ok next)
WentAndTook {E} p book book' events before after most (Err e) =
    Went {E = E} p book book' events before after (Err e)
    ⊎ ((mid : Run) × (whole : Bool) × Went {E = E} p book mid events before after (Ok whole) × Unmade (given p (history_of mid)) (given p (history_of book')))
