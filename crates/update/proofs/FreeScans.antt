-- Where notes have a scan of all quads, each quad is known, whatever was answered.
use Rattle.std.specs.Prelude.{Bool, true, false, ◌&&◌, ◌||◌, drop, is_none, if◌then◌else◌}
use Rattle.std.specs.List.{list_any, cons_option}
use Rattle.std.specs.Option.{option_or}
use Rattle.std.proofs.Common.{◌≡◌, ℕ, ◌+◌, ◌<◌, List, [], ◌∷◌, length, get_or, Option, Some, None, refl, sym, ap, ◌∙◌}
use Rattle.std.proofs.lemmas.Bool.{false≢true, or_left, or_right, or_cases}
use Rattle.std.proofs.Math.Bool.{or_assoc}
use Rattle.std.proofs.Math.Logic.{⊎_elim}
use Rattle.datasets.specs.declared.id.Id.{Id}
use Rattle.datasets.specs.declared.quad.Quad.{Quad}
use Rattle.datasets.specs.declared.read.GraphPlace.{GraphPlace}
use Rattle.datasets.specs.declared.read.GraphPlace.TheVariants.{Any, Only}
use Rattle.datasets.specs.declared.read.QuadPattern.{QuadPattern}
use Rattle.datasets.specs.declared.read.Read.TheVariants.{Scan, GraphIs, Graphs}
use Rattle.datasets.specs.Dataset.{matches}
use Rattle.datasets.specs.Id.{id_order}
use Rattle.asking.specs.Near.{is_free, is_any as is_any_graph}
use Rattle.reads.specs.Reads.{Read}
use Rattle.reads.specs.declared.note.Note.{Note}
use Rattle.update.specs.Told.{ToldScan, told_by, first_told, is_of_all}
use Rattle.update.specs.Whole.{whole_place, places_told, is_any, WholeGraphs, is_known, told_in}
use Rattle.update.specs.Known.{is_free_scan, has_free_scan, has_names, WhatIsKnown, KnowsAll}
use Rattle.update.proofs.WholeGraphs.{drop_next}

-- ---- one scan

-- a scan of all quads lets each quad through
lets_all : (s p o : Option Id) (g : GraphPlace Id) (q : Quad Id) → (is_none s && (is_none p && (is_none o && is_any_graph g))) ≡ true
    → matches id_order (record { subject = s; predicate = p; object = o; graph = g }) q ≡ true
lets_all None None None Any q e = refl
lets_all None None None (Only g) q e = absurd (false≢true e)
lets_all None None (Some o) g q e = absurd (false≢true e)
lets_all None (Some p) o g q e = absurd (false≢true e)
lets_all (Some s) p o g q e = absurd (false≢true e)

free_matches : (p : QuadPattern Id) (q : Quad Id) → is_free p ≡ true → matches id_order p q ≡ true
free_matches p q e = lets_all p.subject p.predicate p.object p.graph q e

-- and is one of each graph
of_any : (s p o : Option Id) (g : GraphPlace Id) (places : List (GraphPlace Id)) → (is_none s && (is_none p && (is_none o && is_any_graph g))) ≡ true
    → list_any is_any (cons_option (if (is_none s && (is_none p && is_none o)) then Some g else None) places) ≡ true
of_any None None None Any places e = refl
of_any None None None (Only g) places e = absurd (false≢true e)
of_any None None (Some o) g places e = absurd (false≢true e)
of_any None (Some p) o g places e = absurd (false≢true e)
of_any (Some s) p o g places e = absurd (false≢true e)

free_any : (r : Read) (places : List (GraphPlace Id)) → is_free_scan r ≡ true → list_any is_any (cons_option (whole_place r) places) ≡ true
free_any (Scan p) places e = of_any p.subject p.predicate p.object p.graph places e
free_any (GraphIs g) places e = absurd (false≢true e)
free_any Graphs places e = absurd (false≢true e)

still_any : (o : Option (GraphPlace Id)) (places : List (GraphPlace Id)) → list_any is_any places ≡ true → list_any is_any (cons_option o places) ≡ true
still_any None places e = e
still_any (Some place) places e = or_right _ _ e

-- ---- notes

-- one note more is looked at
pub free_more : (notes : List Note) (i : ℕ) (n : Note) (before after : Bool) → i < length notes → n ≡ get_or notes i n
    → after ≡ (before || is_free_scan n.read) → (before || has_free_scan (drop i notes)) ≡ has_free_scan notes → (after || has_free_scan (drop (i + 1) notes)) ≡ has_free_scan notes
free_more notes i n before after lt is e h =
    ap (λ b. b || has_free_scan (drop (i + 1) notes)) e
    ∙ or_assoc before (is_free_scan n.read) (has_free_scan (drop (i + 1) notes))
    ∙ ap (λ ns. before || has_free_scan ns) (sym (drop_next notes i n lt is))
    ∙ h

pub all_places : (notes : List Note) → has_free_scan notes ≡ true → list_any is_any (places_told notes) ≡ true
all_places [] e = absurd (false≢true e)
all_places (n ∷ ns) e = ⊎_elim (free_any n.read (places_told ns)) (λ h. still_any (whole_place n.read) (places_told ns) (all_places ns h)) (or_cases (is_free_scan n.read) (has_free_scan ns) e)

-- ---- so each quad is known

is_some_if : (b so : Bool) → b ≡ true → is_none (if b then Some so else None) ≡ false
is_some_if true so e = refl
is_some_if false so e = absurd (false≢true e)

first_some : (a b : Option Bool) → is_none a ≡ false → is_none (option_or a b) ≡ false
first_some (Some so) b e = refl
first_some None b e = absurd (false≢true (sym e))

second_some : (a b : Option Bool) → is_none b ≡ false → is_none (option_or a b) ≡ false
second_some (Some so) b e = refl
second_some None b e = e

scans_tell : (scans : List ToldScan) (q : Quad Id) → list_any is_of_all scans ≡ true → is_none (first_told scans q) ≡ false
scans_tell [] q e = absurd (false≢true e)
scans_tell (s ∷ ss) q e =
    ⊎_elim (λ h. first_some (told_by s q) (first_told ss q) (is_some_if (matches id_order s.pattern q) _ (free_matches s.pattern q h)))
    (λ h. second_some (told_by s q) (first_told ss q) (scans_tell ss q h))
    (or_cases (is_of_all s) (list_any is_of_all ss) e)

all_known : (w : WholeGraphs) (g : Option Id) → w.is_all ≡ true → is_known w g ≡ true
all_known w None e = or_left _ _ e
all_known w (Some g) e = or_left _ _ e

pub knows_all : (k : WhatIsKnown) (place : ℕ) (notes : List Note) → (list_any is_of_all k.scans || has_free_scan (drop place notes)) ≡ has_free_scan notes
    → (has_free_scan (drop place notes) ≡ true → k.whole.is_all ≡ true) → k.has_graphs ≡ has_names notes → KnowsAll k notes
knows_all k place notes parts whole names = record {
  quads = λ e q.
      ⊎_elim (λ h. first_some (first_told k.scans q) (told_in k.whole q) (scans_tell k.scans q h))
      (λ h. second_some (first_told k.scans q) (told_in k.whole q) (is_some_if (is_known k.whole q.graph) _ (all_known k.whole q.graph (whole h))))
      (or_cases (list_any is_of_all k.scans) (has_free_scan (drop place notes)) (parts ∙ e));
  names = λ e. names ∙ e;
}
