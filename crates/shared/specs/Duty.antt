-- What the workers of a shared book are there for.
use Rattle.std.specs.Prelude.{◌≡◌, false}
use Rattle.blocklock.specs.Passes.{LockTable}
use Rattle.shared.specs.declared.kept.Subject.{Subject}
use Rattle.shared.specs.Calls.{Viewed}

-- the table of the shared book's lock, and what the book is about
pub record Duty : Type 0 where
  pub table : LockTable
  pub subject : Subject

-- a pass for it, which does not hold the book
pub record IsPassFor (d : Duty) (p : Viewed) : Type 0 where
  pub table : p.table ≡ d.table
  pub subject : p.subject ≡ d.subject
  pub holds : p.holds ≡ false
