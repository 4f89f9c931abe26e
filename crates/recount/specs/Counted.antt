-- What the answers of a source count as, which may lie.
use Rattle.std.specs.Prelude.{Bool, false, ◌&&◌, List, [], filter, map, unwrap_or}
use Rattle.sets.specs.Sets.{set_of}
use Rattle.datasets.specs.declared.id.Id.{Id}
use Rattle.datasets.specs.declared.quad.Quad.{Quad}
use Rattle.datasets.specs.declared.read.QuadPattern.{QuadPattern}
use Rattle.datasets.specs.declared.read.Read.TheVariants.{Scan, GraphIs, Graphs}
use Rattle.datasets.specs.Dataset.{Quads, Is, Names, quad_order, matches}
use Rattle.datasets.specs.Id.{id_order}
use Rattle.meaning_laws.specs.Renaming.{quad_known}
use Rattle.reads.specs.Reads.{Read, Answer, told_quads, told_is, told_names}
use Rattle.reads.specs.declared.note.Note.{Note}

-- which terms are known
module _ (known : Id → Bool) where
  -- whether a quad counts in the answer to a scan: it matches, and its terms are known
  abbrev pub counts : QuadPattern Id → Quad Id → Bool
  counts p q = matches id_order p q && quad_known known q

  -- An answer of the wrong kind counts as no quads, false or no names. What doesn't count and a
  -- second copy are left out, and the order doesn't matter.
  abbrev pub counted : Read → Answer → Answer
  counted (Scan p) a = Quads (set_of (quad_order id_order) (filter (counts p) (unwrap_or (told_quads a) [])))
  counted (GraphIs g) a = Is (unwrap_or (told_is a) false)
  counted Graphs a = Names (set_of id_order (filter known (unwrap_or (told_names a) [])))

  abbrev pub counted_note : Note → Note
  counted_note n = record { read = n.read; answer = counted n.read n.answer }

  -- notes, with what their answers count as
  abbrev pub counted_notes : List Note → List Note
  counted_notes notes = map counted_note notes
