-- The scan for a triple pattern: its terms are bound, its variables free.
use Rattle.std.specs.Prelude.{◌≡◌, Bool, true, List, Option, Some, None, map}
use Rattle.std.specs.List.{AllByRecursion}
use Rattle.datasets.specs.declared.id.Id.{Id}
use Rattle.datasets.specs.declared.read.GraphPlace.TheVariants.{Only}
use Rattle.datasets.specs.declared.read.QuadPattern.{QuadPattern}
use Rattle.datasets.specs.declared.read.Read.TheVariants.{Scan}
use Rattle.algebra.specs.declared.pattern.Place.{Place}
use Rattle.algebra.specs.declared.pattern.Place.TheVariants.{Term, Variable}
use Rattle.algebra.specs.declared.pattern.TriplePattern.{TriplePattern}
use Rattle.reads.specs.Reads.{View, Read}
use Rattle.reads.specs.Runs.{Agrees}
use Rattle.reads.specs.declared.note.Note.{Note}

abbrev pub term_of : Place Id → Option Id
term_of (Term t) = Some t
term_of (Variable v) = None

abbrev pub scan_of : TriplePattern Id → Option Id → QuadPattern Id
scan_of t graph = record { subject = term_of t.subject; predicate = term_of t.predicate; object = term_of t.object; graph = Only graph }

-- the scan for each of these triple patterns in a graph is allowed
abbrev pub AskedPatterns : (Read → Bool) → Option Id → List (TriplePattern Id) → Type 0
AskedPatterns allowed graph ts = AllByRecursion (λ t. allowed (Scan (scan_of t graph)) ≡ true) ts

-- the scans for these triple patterns in a graph, in order
abbrev pub scans_of : List (TriplePattern Id) → Option Id → List Read
scans_of ts graph = map (λ t. Scan (scan_of t graph)) ts

-- the notes are of the scans for these triple patterns in a graph, and each tells what there is
pub record TellScans (ts : List (TriplePattern Id)) (graph : Option Id) (notes : List Note) (d : View) : Type 0 where
  pub scans : map (λ n. n.read) notes ≡ scans_of ts graph
  pub agrees : Agrees notes d
