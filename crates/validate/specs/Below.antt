-- What the requests below one have published.
use Rattle.std.specs.Prelude.{ℕ, zero, suc, ◌&&◌, if◌then◌else◌, List, [], ◌∷◌, ◌++◌, Option, Some, None, slice_index_or}
use Rattle.reads.specs.Reads.{View, Read, says, applied, covers}
use Rattle.incarnations.specs.Slots.{Noted, Slot, fresh_slot}

abbrev pub slot_at : List Slot → ℕ → Slot
slot_at slots i = slice_index_or slots i fresh_slot

-- view(i): the base with the deltas of requests 0 to i-1 applied in order
unfoldable pub view_at : View → List Slot → ℕ → View
view_at base slots zero = base
view_at base slots (suc i) = applied (slot_at slots i).delta (view_at base slots i)

-- the greatest request below i that is an estimate and whose delta covers the read
unfoldable pub blocker : List Slot → ℕ → Read → Option ℕ
blocker slots zero read = None
blocker slots (suc j) read =
    if (slot_at slots j).estimate && covers (slot_at slots j).delta read then Some j else blocker slots j read

-- the requests below i whose delta covers the read, each with the incarnation of its last
-- publication
unfoldable pub touching : List Slot → ℕ → Read → List (ℕ × ℕ)
touching slots zero read = []
touching slots (suc j) read =
    touching slots j read ++ (if covers (slot_at slots j).delta read then (j, (slot_at slots j).version) ∷ [] else [])

-- a read as request i notes it now
abbrev pub note_now : View → List Slot → ℕ → Read → Noted
note_now base slots i read = record { read = read; answer = says read (view_at base slots i); touching = touching slots i read }
