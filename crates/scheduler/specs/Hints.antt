-- Where the seats look for hints.
use Rattle.std.specs.Prelude.{◌≡◌, ◌≤◌, ℕ, ◌+◌, List, ◌++◌, map, take, drop, Some, slice_get}
use Rattle.std.specs.declared.alloc.Global.{Global}
use Rattle.atomic_blocks.specs.Lent.{RowsId}
use Rattle.crossbeam_deque.specs.Handles.{worker_deque, stealer_deque, worker_capacity, worker_index}
use Rattle.scheduler.specs.declared.other_deque.OtherDeque.{OtherDeque}
use Rattle.scheduler.specs.declared.hints.Hints.{Hints}

-- the index of the next hint in the seat's own deque: a push adds one, and a hint that the seat
-- takes back takes one off at most
abbrev pub index : Hints → ℕ
index h = worker_index h.own

-- below which index there is room for a hint, without a growth
abbrev pub room : Hints → ℕ
room h = worker_capacity h.own

-- nothing was put yet, and the first 64 hints need no growth
abbrev pub IsNew : Hints → Type 0
IsNew h = (index h ≡ 0) × (64 ≤ room h)

-- the seats' own deques
abbrev pub deques_of : List Hints → List (RowsId × Global)
deques_of = map (λ h. worker_deque h.own)

-- the deques of others in which a seat looks, in order
abbrev pub sources_of : List OtherDeque → List (RowsId × Global)
sources_of = map (λ o. stealer_deque o.source)

-- a seat looks in the same deques as before
abbrev pub IsSameSeat : Hints → Hints → Type 0
IsSameSeat old new = (worker_deque new.own ≡ worker_deque old.own) × (sources_of new.others.items ≡ sources_of old.others.items)

-- the seat i looks in the deques of the seats behind it, and then in those of the seats before it
abbrev pub LooksFrom : List (RowsId × Global) → ℕ → Hints → Type 0
LooksFrom deques i h = sources_of h.others.items ≡ drop (i + 1) deques ++ take i deques

-- each seat looks in the deques of all others
abbrev pub LookEverywhere : List Hints → Type 0
LookEverywhere seats = (i : ℕ) (h : Hints) → slice_get seats i ≡ Some h → LooksFrom (deques_of seats) i h
