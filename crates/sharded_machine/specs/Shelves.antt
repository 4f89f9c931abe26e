-- What each request published last, as publications alone say; what of it lies in a shard; and
-- which entries touch a shard.
use Rattle.std.specs.Prelude.{◌≡◌, ℕ, zero, suc, ◌+◌, Bool, false, ◌||◌, ◌==◌, if◌then◌else◌, List, [], ◌∷◌, ◌++◌, length, Some}
use Rattle.reads.specs.Reads.{View, Delta, Read, no_change, applied, covers}
use Rattle.incarnations.specs.declared.state.Event.{Event}
use Rattle.incarnations.specs.declared.state.Event.TheVariants.{Publish}
use Rattle.incarnations.specs.declared.state.Reply.{Reply}
use Rattle.incarnations.specs.declared.state.Reply.TheVariants.{Published}
use Rattle.incarnations.specs.declared.state.Entry.{Entry}
use Rattle.incarnations.specs.Slots.{Slot}
use Rattle.shards.specs.Shards.{cut, speaks_in}

-- a published delta, and its incarnation
pub record Shelved : Type 0 where
  pub delta : Delta
  pub version : ℕ

-- before the first publication
abbrev pub nothing_shelved : Shelved
nothing_shelved = record { delta = no_change; version = 0 }

-- what request j published last, with one more answered event
abbrev pub shelf_with : ℕ → Shelved → Event → Reply → Shelved
shelf_with j x (Publish i n (Some finished)) Published = if i == j then record { delta = finished.delta; version = n } else x
shelf_with j x event reply = x

unfoldable pub shelf_after : ℕ → Shelved → List Entry → Shelved
shelf_after j x [] = x
shelf_after j x (e ∷ es) = shelf_after j (shelf_with j x e.event e.reply) es

-- what request j published last in this history
abbrev pub shelf : ℕ → List Entry → Shelved
shelf j history = shelf_after j nothing_shelved history

-- a slot has this publication
abbrev pub HasShelved : Slot → Shelved → Type 0
HasShelved slot x = (slot.delta ≡ x.delta) × (slot.version ≡ x.version)

-- what of a publication lies in a shard; its incarnation is forgotten where nothing does
abbrev pub shelved_in : ℕ → Shelved → Shelved
shelved_in k x = record { delta = cut k x.delta; version = if speaks_in k x.delta then x.version else 0 }

-- a shard's part after a history: of each request, what of its last publication lies there
abbrev pub part_after : ℕ → List Entry → ℕ → Shelved
part_after k history j = shelved_in k (shelf j history)

-- a publication touches the shards of which its delta, or the delta before it, speaks
abbrev pub touches_by : ℕ → (before : List Entry) → Event → Reply → Bool
touches_by k before (Publish i n (Some finished)) Published = speaks_in k finished.delta || speaks_in k (shelf i before).delta
touches_by k before event reply = false

-- whether an entry touches a shard, after the entries before it
abbrev pub touches : ℕ → (before : List Entry) → Entry → Bool
touches k before e = touches_by k before e.event e.reply

unfoldable pub last_touch_after : ℕ → (before : List Entry) → ℕ → List Entry → ℕ
last_touch_after k before last [] = last
last_touch_after k before last (e ∷ es) = last_touch_after k (before ++ e ∷ []) (if touches k before e then length before + 1 else last) es

-- the number of entries up to and with the last one that touches a shard; 0 if there is none
abbrev pub last_touch : ℕ → List Entry → ℕ
last_touch k history = last_touch_after k [] 0 history

-- WHAT IS FOUND IN A PART

-- the base with the part's deltas of requests 0 to i-1
unfoldable pub view_in : View → (ℕ → Shelved) → ℕ → View
view_in base part zero = base
view_in base part (suc i) = applied (part i).delta (view_in base part i)

-- the requests below i whose delta in the part covers the read
unfoldable pub touching_in : (ℕ → Shelved) → ℕ → Read → List (ℕ × ℕ)
touching_in part zero read = []
touching_in part (suc j) read = touching_in part j read ++ (if covers (part j).delta read then (j, (part j).version) ∷ [] else [])
