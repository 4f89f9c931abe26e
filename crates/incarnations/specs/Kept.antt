-- A request's part as it is kept, and what it stands for.
use Rattle.std.specs.Prelude.{false, [], map, None}
use Rattle.reads.specs.Reads.{no_change}
use Rattle.reads.specs.declared.note.Note.{Note}
use Rattle.incarnations.specs.declared.state.Noted.{Noted as KeptNote}
use Rattle.incarnations.specs.declared.state.Slot.{Slot as KeptSlot}
use Rattle.incarnations.specs.declared.state.Status.TheVariants.{Ready}
use Rattle.incarnations.specs.Slots.{Noted, Slot}

-- a kept slot, its notes by a reading
abbrev pub slot_by : (KeptNote → Noted) → KeptSlot → Slot
slot_by f x =
    record {
      status = x.status;
      notes = map f x.notes;
      delta = x.delta;
      version = x.version;
      reply = x.reply;
      estimate = x.estimate;
      changed = x.changed;
      pass = x.pass;
      stamp = x.stamp;
    }

-- a note, with the part of its list that is kept
abbrev pub plain : KeptNote → Noted
plain n = record { read = n.note.read; answer = n.note.answer; touching = n.touching }

-- the noted read with its answer
abbrev pub kept_note_of : KeptNote → Note
kept_note_of n = n.note

-- a request before its first event
abbrev pub fresh_kept : KeptSlot
fresh_kept =
    record {
      status = Ready 0;
      notes = [];
      delta = no_change;
      version = 0;
      reply = None;
      estimate = false;
      changed = 0;
      pass = None;
      stamp = None;
    }
