-- A request's part of the machine, and what an answered event makes of it.
use Rattle.std.specs.Prelude.{ℕ, ◌+◌, Bool, true, false, ◌==◌, if◌then◌else◌, List, [], ◌∷◌, ◌++◌, length, map, Option, Some, None}
use Rattle.meaning.specs.declared.reply.Reply as request
use Rattle.reads.specs.Reads.{Read, Answer, Delta, no_change}
use Rattle.reads.specs.declared.note.Note.{Note}
use Rattle.delta.specs.Same.{delta_eq}
use Rattle.delta.specs.declared.finished.Finished.{Finished}
use Rattle.incarnations.specs.declared.state.Pass.{Pass}
use Rattle.incarnations.specs.declared.state.Status.{Status}
use Rattle.incarnations.specs.declared.state.Status.TheVariants.{Ready, Executing, Executed, Committed as HasCommitted}

-- A read as it was answered, with the lower requests whose deltas touched it, each by the
-- incarnation of its last publication.
pub record Noted : Type 0 where
  pub read : Read
  pub answer : Answer
  pub touching : List (ℕ × ℕ)

-- One request's part of the machine: its status, the reads of its incarnation, its last
-- publication's delta, incarnation and reply, whether that is an estimate, the clock when the delta
-- last changed, the pass that stands, and the clock when the last finished pass began.
pub record Slot : Type 0 where
  pub status : Status
  pub notes : List Noted
  pub delta : Delta
  pub version : ℕ
  pub reply : Option request.Reply
  pub estimate : Bool
  pub changed : ℕ
  pub pass : Option Pass
  pub stamp : Option ℕ

-- a request before its first event
abbrev pub fresh_slot : Slot
fresh_slot =
    record {
      status = Ready 0;
      notes = [];
      delta = no_change;
      version = 0;
      reply = None;
      estimate = false;
      changed = 0;
      pass = None;
      stamp = None;
    }

-- the noted reads with their answers
abbrev pub note_of : Noted → Note
note_of n = record { read = n.read; answer = n.answer }

abbrev pub transcript_of : List Noted → List Note
transcript_of notes = map note_of notes

-- WHAT AN EVENT MAKES OF A SLOT

abbrev pub taken : Slot → ℕ → ℕ → Slot
taken x n worker = record x { status = Executing n worker; notes = [] }

abbrev pub with_note : Slot → Noted → Slot
with_note x note = record x { notes = x.notes ++ note ∷ [] }

-- whether a publication changes the request's delta
abbrev pub keeps_delta : Slot → Finished → Bool
keeps_delta x finished = delta_eq x.delta finished.delta

abbrev pub published : Slot → ℕ → Finished → ℕ → Slot
published x n finished clock =
    record x {
      status = Executed n;
      delta = finished.delta;
      version = n;
      reply = Some finished.reply;
      estimate = false;
      changed = if keeps_delta x finished then x.changed else clock + 1;
      pass = None;
      stamp = None;
    }

-- with no notes there is nothing to check
abbrev pub begun : Slot → List Noted → ℕ → Slot
begun x [] clock = record x { pass = None; stamp = Some clock }
begun x (n ∷ ns) clock = record x { pass = Some (record { start = clock; next = 0 }); stamp = None }

-- the next read comes; after the last one the stamp is the pass's start
abbrev pub passed : Slot → Option Pass → Slot
passed x None = x
passed x (Some pass) =
    if (pass.next + 1) == length x.notes
    then record x { pass = None; stamp = Some pass.start }
    else record x { pass = Some (record pass { next = pass.next + 1 }) }

-- the delta and its mark stay
abbrev pub aborted : Slot → ℕ → Slot
aborted x n = record x { status = Ready (n + 1); notes = []; estimate = true; pass = None; stamp = None }

abbrev pub given : Slot → ℕ → Slot
given x n = record x { status = Ready (n + 1); notes = [] }

abbrev pub committed : Slot → Status → Slot
committed x (Executed n) = record x { status = HasCommitted n }
committed x (Ready n) = x
committed x (Executing n by) = x
committed x (HasCommitted n) = x
