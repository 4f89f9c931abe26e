use Rattle.std.proofs.Common.{◌≡◌, ◌++◌, List, drop}
use Rattle.algebra.specs.declared.pattern.TriplePattern.{TriplePattern}
use Rattle.datasets.specs.declared.id.Id.{Id}
use Rattle.datasets.specs.Dataset.{quads_in}
use Rattle.datasets.specs.Id.{id_order}
use Rattle.meaning.specs.Solutions.{joined_with, basic_solutions}
use Rattle.reads.specs.Reads.{View, applied}
use Rattle.eval.specs.Scans.{TellScans}
use Rattle.eval.proofs.basic.told_joined.Given as goal

-- the notes that are left tell of the patterns that are left; the solutions so far, joined with
-- those of these, are those of all
abbrev pub invariant-loop-pattern : goal.invariant-loop-pattern
invariant-loop-pattern g l =
    (d : View) (later : List (TriplePattern Id)) → TellScans (l.patterns ++ later) l.graph l.notes d →
    TellScans (drop l.pattern-index l.patterns ++ later) l.graph l.left d
    × (joined_with id_order l.query.width l.found (drop l.pattern-index l.patterns) (quads_in id_order l.graph (applied l.query.changes.now d).quads)
    ≡ basic_solutions id_order l.query.width l.patterns (quads_in id_order l.graph (applied l.query.changes.now d).quads))
