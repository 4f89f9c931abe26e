-- What the workers of a pool need, and what they have reached.
use Rattle.std.specs.Prelude.{◌≡◌, ◌≤◌, ◌<◌, ◌^◌, List, length, All}
use Rattle.book.specs.Run.{state_of}
use Rattle.update.specs.Asked.{AreShort}
use Rattle.shared.specs.Calls.{Viewed, run_of}
use Rattle.shared.specs.Duty.{Duty, IsPassFor}

-- passes for this duty, whose block has fewer than 2^32 requests, each with few enough operations
pub record MayBegin (d : Duty) (ps : List Viewed) : Type 0 where
  pub passes : All (IsPassFor d) ps
  pub size : length d.subject.block < 2 ^ 32
  pub short : AreShort d.subject.block

-- a pass for this duty, which has seen all requests committed
pub record IsDone (d : Duty) (p : Viewed) : Type 0 where
  pub pass : IsPassFor d p
  pub whole : length d.subject.block ≤ (state_of (run_of p.subject p.seen)).front

-- as many passes as these, all of which are done
pub record AreDone (d : Duty) (before ps : List Viewed) : Type 0 where
  pub count : length ps ≡ length before
  pub done : All (IsDone d) ps
