-- Scans that are asked for at once, and the notes of them.
use Rattle.std.specs.Prelude.{Bool, true, filter, map, drop}
use Rattle.std.proofs.Common.{◌≡◌, ◌≤◌, ◌<◌, ◌+◌, ℕ, zero, suc, List, [], ◌∷◌, length, get_or, Option, Some, refl, ap, ◌∙◌, subst, arith, add-one, drop-cons}
use Rattle.sets.proofs.Every.{all_map}
use Rattle.datasets.specs.declared.id.Id.{Id}
use Rattle.datasets.specs.declared.read.Read.TheVariants.{Scan}
use Rattle.datasets.specs.Dataset.{matches}
use Rattle.datasets.specs.Id.{id_order}
use Rattle.algebra.specs.declared.pattern.TriplePattern.{TriplePattern}
use Rattle.reads.specs.Reads.{View, Read, says, told_quads}
use Rattle.reads.specs.Runs.{Agrees}
use Rattle.reads.specs.declared.note.Note.{Note}
use Rattle.asking.specs.Goes.{AreAllowed, AreNoted}
use Rattle.asking.proofs.Notes.{noted_behind}
use Rattle.eval.specs.Scans.{scan_of, scans_of, AskedPatterns, TellScans}

-- the scans are allowed that are for patterns that may be asked for
pub asked_scans : (allowed : Read → Bool) (ts : List (TriplePattern Id)) (graph : Option Id) → AskedPatterns allowed graph ts → AreAllowed allowed (scans_of ts graph)
asked_scans allowed ts graph h = all_map (λ r. allowed r ≡ true) (λ t. Scan (scan_of t graph)) ts h

-- what was noted last tells of the scans that were asked for
pub lot_told : (ts : List (TriplePattern Id)) (graph : Option Id) (notes notes' tail : List Note) (n : ℕ) (d : View)
    → AreNoted (scans_of ts graph) notes notes' → length notes ≡ n → tail ≡ drop n notes' → Agrees notes' d → TellScans ts graph tail d
lot_told ts graph notes notes' tail n d noted e is a =
    let behind = noted_behind (scans_of ts graph) notes notes' tail n d noted e is a in
    record { scans = behind.0; agrees = behind.1 }

-- the first of the notes has the quads of the first scan, and the others tell of the other scans
pub told_one : (t : TriplePattern Id) (ts : List (TriplePattern Id)) (graph : Option Id) (n : Note) (notes : List Note) (d : View) → TellScans (t ∷ ts) graph (n ∷ notes) d
    → (told_quads n.answer ≡ Some (filter (matches id_order (scan_of t graph)) d.quads)) × TellScans ts graph notes d
unfolding says
told_one t ts graph n notes d told =
    let all : n.read ∷ map (λ m. m.read) notes ≡ Scan (scan_of t graph) ∷ scans_of ts graph = told.scans in
    let first : n.read ≡ Scan (scan_of t graph) = cc in
    let others : map (λ m. m.read) notes ≡ scans_of ts graph = cc in
    (ap told_quads (told.agrees.0 ∙ ap (λ r. says r d) first), record { scans = others; agrees = told.agrees.1 })

-- ---- steps of a loop over patterns

pub next_of : {A : Type 0} (xs : List A) (i : ℕ) (d : A) → i < length xs → drop i xs ≡ get_or xs i d ∷ drop (i + 1) xs
next_of xs i d lt = rw add-one (drop-cons xs i d lt)

pub none_left : {A : Type 0} (xs : List A) (i : ℕ) → length xs ≤ i → drop i xs ≡ []
none_left [] zero le = refl
none_left [] (suc i) le = refl
none_left (x ∷ xs) zero le = absurd (omega (arith, le))
none_left (x ∷ xs) (suc i) le = none_left xs i (omega (arith, le))

-- notes that tell of the scans for a list of patterns tell of those for the same list
pub told_as : (ts same : List (TriplePattern Id)) (graph : Option Id) (notes : List Note) (d : View) → ts ≡ same → TellScans ts graph notes d → TellScans same graph notes d
told_as ts same graph notes d e told = subst (λ xs. TellScans xs graph notes d) e told
