-- Notes of little memory.
use Rattle.quad_lists.specs.Known.{quad_of}
use Rattle.reads.specs.declared.note.Note.{Note}
use Rattle.reads.specs.Presence.{scan_for, presence}
use Rattle.version_overlay.specs.declared.lean_note.Form.{Form}
use Rattle.version_overlay.specs.declared.lean_note.Form.TheVariants.{Presence, Whole}

-- the question whether a quad is there and its answer, or any read with its answer
abbrev pub note_of : Form → Note
note_of (Presence quad there) = record { read = scan_for (quad_of quad); answer = presence (quad_of quad) there }
note_of (Whole note) = note.value
