-- A pass as contracts see it, and what taking and giving back the book say of it.
use Rattle.std.specs.Prelude.{◌≡◌, ℕ, ◌+◌, Bool, true, false, List, [], ◌∷◌, Option, None, if◌then◌else◌}
use Rattle.atomic_table.specs.Table.{Me}
use Rattle.atomic_table.specs.Seated.{TableId}
use Rattle.blocklock.specs.declared.view.View.{View}
use Rattle.blocklock.specs.declared.view.Told.{Told}
use Rattle.blocklock.specs.History.{History, of_worker, AreBelow, BeginsWith, GoesOn}
use Rattle.blocklock.specs.Rule.{first_view}

-- the table of a lock: which it is, how many workers have passes, and how many entries the journal
-- had when the book was put in
pub record LockTable : Type 0 where
  pub id : TableId
  pub seats : ℕ
  pub start : ℕ

-- its lock's table, its worker, what the book is about, the journal that it has seen, and whether
-- it holds the book
pub record PassView (S E : Type 0) : Type 0 where
  pub table : LockTable
  pub worker : ℕ
  pub subject : S
  pub seen : List E
  pub holds : Bool

module _ {S E : Type 0} where
  -- the seat stands for this worker alone, and has the empty slot while it holds the book
  pub record IsSeatOf {T : Type 0} (worker : ℕ) (me : Me (Option T) (View S E)) : Type 0 where
    pub from : me.0.from ≡ worker
    pub until : me.0.until ≡ worker + 1
    pub told : me.0.told ≡ []
    pub slots : me.1 ≡ (if me.0.holds then (0, None) ∷ [] else [])

  -- the lock's table, as a seat knows it
  abbrev pub table_of : TableId → View S E → LockTable
  table_of id v = record { id = id; seats = v.seats; start = v.start }

  -- the pass of a worker with this seat
  abbrev pub seated : TableId → ℕ → View S E → PassView S E
  seated id worker v = record { table = table_of id v; worker = worker; subject = v.subject; seen = v.seen; holds = v.holds }

  -- the first view of a pass
  abbrev pub fresh_pass : LockTable → History S E → ℕ → PassView S E
  fresh_pass table book worker = record { table = table; worker = worker; subject = book.subject; seen = book.journal; holds = false }

  -- the pass has given the book back
  abbrev pub given : PassView S E → History S E → PassView S E
  given p book = record p { seen = book.journal; holds = false }

  -- what a pass that is taken in leaves
  abbrev pub told_of : PassView S E → Told S E
  told_of p = record { worker = p.worker; subject = p.subject; seen = p.seen; seats = p.table.seats }

  -- the pass is of this table, and does not hold the book
  abbrev pub IsIdleAt : LockTable → PassView S E → Type 0
  IsIdleAt table p = (p.table ≡ table) × (p.holds ≡ false)

  -- the seat of the passes that are still to be dealt, from this worker on
  abbrev pub dealer : {T : Type 0} → ℕ → History S E → ℕ → Me T (View S E)
  dealer seats book from = (record (first_view seats book) { from = from }, [])

module _ {S E : Type 0} (worker_of : E → ℕ) where
  -- the entries of its worker in what it has seen
  abbrev pub mine_of : PassView S E → List E
  mine_of p = of_worker worker_of p.worker p.seen

  -- the book is about the same, and its journal begins with all that the pass has seen and has no
  -- other entries of its worker, nor of a worker who has no pass
  pub record Includes (p : PassView S E) (book : History S E) : Type 0 where
    pub subject : book.subject ≡ p.subject
    pub begins : BeginsWith book.journal p.seen
    pub mine : of_worker worker_of p.worker book.journal ≡ mine_of p
    pub workers : AreBelow worker_of p.table.seats begins.0

  -- the pass takes the book
  pub record Takes (old : PassView S E) (book : History S E) (new : PassView S E) : Type 0 where
    pub was_free : old.holds ≡ false
    pub includes : Includes old book
    pub sees : new ≡ record old { seen = book.journal; holds = true }

  -- the pass may give this book back
  pub record MayGive (p : PassView S E) (book : History S E) : Type 0 where
    pub holds : p.holds ≡ true
    pub subject : book.subject ≡ p.subject
    pub goes_on : GoesOn worker_of p.worker p.seen book.journal

  -- the pass has seen more of the journal, in which it has no new entries, and none is of a worker
  -- who has no pass
  pub record Watches (old new : PassView S E) : Type 0 where
    pub sees : new ≡ record old { seen = new.seen }
    pub begins : BeginsWith new.seen old.seen
    pub mine : mine_of new ≡ mine_of old
    pub workers : AreBelow worker_of old.table.seats begins.0
