-- The rule of the lock's table, and what each step tells.
use Rattle.std.specs.Prelude.{◌≡◌, ◌≢◌, ℕ, ◌+◌, ◌<◌, ◌≤◌, Bool, true, false, List, [], ◌∷◌, length, drop, slice_index, Option, Some}
use mathlib.Core.Option.{some}
use lib.ListN.{get_elem?}
use Rattle.atomic_table.specs.Table.{State, Me, Step, rest}
use Rattle.blocklock.specs.declared.view.View.{View}
use Rattle.blocklock.specs.declared.view.Told.{Told}
use Rattle.blocklock.specs.History.{History, of_worker, AreBelow, BeginsWith}

module _ {S E : Type 0} where
  -- the seat stands for this worker
  abbrev pub Owns : View S E → ℕ → Type 0
  Owns v w = (v.from ≤ w) × (w < v.until)

  -- a seat's view once it has taken a book with this journal, and once it has given one back
  abbrev pub seeing : View S E → List E → Bool → View S E
  seeing v seen holds = record v { seen = seen; holds = holds }

  abbrev pub first_view : ℕ → History S E → View S E
  first_view seats h =
      record { subject = h.subject; from = 0; until = seats; seen = h.journal; holds = false; told = []; seats = seats; start = length h.journal }

  abbrev pub rest_of : View S E → View S E
  rest_of v = record v { from = v.from + 1 }

  abbrev pub one_of : View S E → View S E
  one_of v = record v { until = v.from + 1 }

  abbrev pub joined : View S E → View S E → View S E
  joined v w = record v { told = record { worker = w.from; subject = w.subject; seen = w.seen; seats = w.seats } ∷ v.told }

  abbrev pub spent : S → View S E
  spent any_subject = record { subject = any_subject; from = 0; until = 0; seen = []; holds = false; told = []; seats = 0; start = 0 }

module _ {S E : Type 0} (worker_of : E → ℕ) where
  -- what a seat has seen begins with what another had seen, and has no other entries of that one's
  -- worker, nor of a worker who has no seat
  pub record Covers (subject : S) (seen : List E) (t : Told S E) : Type 0 where
    pub same_subject : t.subject ≡ subject
    pub begins : BeginsWith seen t.seen
    pub own : of_worker worker_of t.worker seen ≡ of_worker worker_of t.worker t.seen
    pub workers : AreBelow worker_of t.seats begins.0

  abbrev pub AllCovered : S → List E → List (Told S E) → Type 0
  AllCovered subject seen [] = Unit {0}
  AllCovered subject seen (t ∷ ts) = Covers subject seen t × AllCovered subject seen ts

  -- the current journal begins with what a seat has seen, and has no other entries of the seat's
  -- workers, nor of a worker who has no seat
  pub record Follows (subject : S) (seats : ℕ) (journal : List E) (v : View S E) : Type 0 where
    pub begins : BeginsWith journal v.seen
    pub own : (w : ℕ) → Owns v w → (v.subject ≡ subject) × (of_worker worker_of w journal ≡ of_worker worker_of w v.seen)
    pub told : AllCovered v.subject v.seen v.told
    pub seat : (w : ℕ) → Owns v w → (v.seats ≡ seats) × (w < seats)
    pub workers : (w : ℕ) → Owns v w → AreBelow worker_of seats begins.0

module _ {S E : Type 0} where
  -- one seat holds the book, and has seen all
  abbrev pub IsOut : {T : Type 0} → List E → State (Option T) (View S E) → Type 0
  IsOut journal s =
      (h : ℕ) × (v : View S E) × (get_elem? s.views h ≡ some v) × (v.holds ≡ true) × (v.seen ≡ journal)
      × ((k : ℕ) (u : View S E) → get_elem? s.views k ≡ some u → u.holds ≡ true → k ≡ h)

module _ {T S E : Type 0} (history : T → History S E) where
  -- the book is at home, and no seat holds it
  abbrev pub AtHome : S → List E → State (Option T) (View S E) → Type 0
  AtHome subject journal s =
      (b : T) × (get_elem? s.homes 0 ≡ some (some (Some b))) × (history b ≡ record { subject = subject; journal = journal })
      × ((k : ℕ) (v : View S E) → get_elem? s.views k ≡ some v → v.holds ≡ false)

  abbrev pub gave : Step (Option T) → Me (Option T) (View S E) → ℕ → Me (Option T) (View S E) → Type 0
  gave st m found n = (b : T) → m.1 ≡ (0, Some b) ∷ rest m.1 → n ≡ (seeing m.0 (history b).journal false, rest m.1)

module _ {T S E : Type 0} (worker_of : E → ℕ) (history : T → History S E) where
  -- There is a current journal, which goes on from what every seat has seen. The book at home has
  -- it, or the seat that holds the book has seen it. What it has after its start is of workers who
  -- have seats
  pub record Kept (subject : S) (seats start : ℕ) (s : State (Option T) (View S E)) : Type 0 where
    pub journal : List E
    pub workers : AreBelow worker_of seats (drop start journal)
    pub words : length s.words ≡ 1
    pub follow : (k : ℕ) (v : View S E) → get_elem? s.views k ≡ some v → Follows worker_of subject seats journal v
    pub apart : (j k : ℕ) (u v : View S E) (w : ℕ) → get_elem? s.views j ≡ some u → get_elem? s.views k ≡ some v → Owns u w → Owns v w → j ≡ k
    pub free : slice_index s.words 0 ≡ 0 → AtHome history subject journal s
    pub taken : slice_index s.words 0 ≢ 0 → IsOut journal s

  -- the book that was taken goes on from what the seat had seen, with no new entry of its own
  pub record TakesBook (m n : Me (Option T) (View S E)) : Type 0 where
    pub book : T
    pub was_free : m.0.holds ≡ false
    pub has : n ≡ (seeing m.0 (history book).journal true, (0, Some book) ∷ m.1)
    pub begins : BeginsWith (history book).journal m.0.seen
    pub workers : (w : ℕ) → Owns m.0 w → AreBelow worker_of m.0.seats begins.0
    pub own : (w : ℕ) → Owns m.0 w → ((history book).subject ≡ m.0.subject) × (of_worker worker_of w (history book).journal ≡ of_worker worker_of w m.0.seen)

  abbrev pub took : Step (Option T) → Me (Option T) (View S E) → ℕ → Me (Option T) (View S E) → Type 0
  took st m found n = (found ≡ 0 → TakesBook m n) × (found ≢ 0 → n ≡ m)
