-- A pass that answers the reads of one incarnation of a request.
use Rattle.std.specs.Prelude.{◌≡◌, ℕ, Result, Ok, Err, ◌⊎◌}
use Rattle.reads.specs.Reads.{Read, Answer}
use Rattle.reads.specs.declared.source.Stop.{Stop}
use Rattle.reads.specs.declared.source.Stop.TheVariants as stop
use Rattle.incarnations.specs.declared.state.Event.TheVariants.{Read as ReadOf}
use Rattle.incarnations.specs.declared.state.Reply.{Reply}
use Rattle.incarnations.specs.declared.state.Reply.TheVariants.{Answered, Blocked}
use Rattle.shared.specs.Calls.{Viewed, Answers, Unmade}

-- a pass, and the place of a request in its block and the incarnation whose reads it answers
pub record Asker : Type 0 where
  pub pass : Viewed
  pub place : ℕ
  pub incarnation : ℕ

-- what a reply to a read tells the run that asked: the answer, that it waits for a lower request,
-- or that it is out of date
abbrev pub told_by : Reply → Result Answer Stop
told_by (Answered answer) = Ok answer
told_by (Blocked j) = Err (stop.Blocked j)
told_by reply = Err stop.Stale

-- The pass made a call for the read, of this incarnation, and tells what it was replied; or memory
-- ran out, and the call wasn't made.
abbrev pub Asks : Asker → Read → Result Answer Stop → Asker → Type 0
Asks a r told a' =
    (a' ≡ record a { pass = a'.pass })
    × (((reply : Reply) × Answers a.pass a'.pass (ReadOf a.place a.incarnation r) reply × (told ≡ told_by reply))
    ⊎ ((told ≡ Err stop.Memory) × Unmade a.pass a'.pass))
