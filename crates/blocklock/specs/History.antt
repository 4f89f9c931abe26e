-- What a lock knows of a book: what it is about, and its journal.
use Rattle.std.specs.Prelude.{◌≡◌, ℕ, ◌<◌, eqb, List, ◌++◌, filter, All}

pub record History (S E : Type 0) : Type 0 where
  pub subject : S
  pub journal : List E

-- the entries of one worker
abbrev pub of_worker : {E : Type 0} → (E → ℕ) → ℕ → List E → List E
of_worker worker_of w es = filter (λ e. eqb (worker_of e) w) es

-- each entry is of a worker below a number
abbrev pub AreBelow : {E : Type 0} → (E → ℕ) → ℕ → List E → Type 0
AreBelow worker_of seats es = All (λ e. worker_of e < seats) es

-- the longer journal goes on from the shorter one
abbrev pub BeginsWith : {E : Type 0} → List E → List E → Type 0
BeginsWith {E} longer shorter = (more : List E) × (longer ≡ shorter ++ more)

-- the later journal goes on from the earlier one by entries of one worker
abbrev pub GoesOn : {E : Type 0} → (E → ℕ) → ℕ → List E → List E → Type 0
GoesOn {E} worker_of worker earlier later = (more : List E) × (later ≡ earlier ++ more) × (of_worker worker_of worker more ≡ more)
