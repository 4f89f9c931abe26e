-- What notes tell is what there is.
use Rattle.std.specs.Prelude.{Bool, true, false, IfSome, drop, take, map, filter, is_none, if◌then◌else◌}
use Rattle.std.proofs.Common.{◌≡◌, ℕ, zero, suc, ◌<◌, List, [], ◌∷◌, ◌++◌, length, get_or, Option, Some, None, refl, sym, ap, ◌∙◌, subst, arith}
use Rattle.std.proofs.lemmas.Bool.{false≢true}
use Rattle.std.proofs.lemmas.List.{append-nil}
use Rattle.sets.specs.Sets.{has, set_of}
use Rattle.sets.proofs.SetLaws.{sorted-set_of}
use Rattle.std.specs.List.Sorted.{IsStrictlySortedBy}
use Rattle.datasets.specs.declared.id.Id.{Id}
use Rattle.datasets.specs.declared.quad.Quad.{Quad}
use Rattle.datasets.specs.declared.read.Read.TheVariants.{Scan, GraphIs, Graphs}
use Rattle.datasets.specs.Dataset.{quad_order}
use Rattle.datasets.specs.Id.{id_order, id_total}
use Rattle.reads.specs.Reads.{View, Read, Answer, says}
use Rattle.reads.specs.Runs.{Agrees}
use Rattle.reads.specs.declared.note.Note.{Note}
use Rattle.asking.specs.Goes.{AreNoted}
use Rattle.asking.proofs.Notes.{noted_behind}
use Rattle.update.specs.Told.{first_told}
use Rattle.update.specs.Whole.{WholeGraphs, is_known, told_in, KnowsWhole}
use Rattle.reads.specs.Presence.{scan_for}
use Rattle.update.specs.Asked.{has_quads, has_name}
use Rattle.update.specs.Known.{is_of_graphs, names_in, WhatIsKnown, told_of, Knows, scans_for_untold, questions_for_untold, Tell}
use Rattle.update.proofs.Told.{has_it}
use Rattle.update.proofs.ToldScans.{first_is, or_is}

-- the names of all graphs, where they were asked for
pub told_graphs : (r : Read) (a : Answer) (d : View) → is_of_graphs r ≡ true → a ≡ says r d → names_in a ≡ d.names
unfolding says
told_graphs (Scan p) a d h e = absurd (false≢true h)
told_graphs (GraphIs g) a d h e = absurd (false≢true h)
told_graphs Graphs a d h e = ap names_in e

pub agrees_at : (notes : List Note) (i : ℕ) (n : Note) (d : View) → i < length notes → Agrees notes d → (get_or notes i n).answer ≡ says (get_or notes i n).read d
agrees_at [] i n d lt a = absurd (omega (arith, lt))
agrees_at (m ∷ ms) zero n d lt a = a.0
agrees_at (m ∷ ms) (suc i) n d lt a = agrees_at ms i n d (omega (arith, lt)) a.1

-- what holds of all notes holds of some that follow on each other
agrees_first : (n : ℕ) (notes : List Note) (d : View) → Agrees notes d → Agrees (take n notes) d
agrees_first zero notes d a = tt
agrees_first (suc n) [] d a = tt
agrees_first (suc n) (m ∷ ms) d a = (a.0, agrees_first n ms d a.1)

pub agrees_part : (n i : ℕ) (notes : List Note) (d : View) → Agrees notes d → Agrees (take n (drop i notes)) d
agrees_part n zero notes d a = agrees_first n notes d a
agrees_part n (suc i) [] d a = agrees_first n [] d tt
agrees_part n (suc i) (m ∷ ms) d a = agrees_part n i ms d a.1

whole_is : (w : WholeGraphs) (d : View) (q : Quad Id) (b : Bool) → is_known w q.graph ≡ b → KnowsWhole w d
    → IfSome (if b then Some (has (quad_order id_order) w.quads q) else None) (λ so. so ≡ has (quad_order id_order) d.quads q)
whole_is w d q true e h = h q e
whole_is w d q false e h = tt

known_is_so : (k : WhatIsKnown) (q : Quad Id) (d : View) → Knows k d → IfSome (told_of k q) (λ so. so ≡ has (quad_order id_order) d.quads q)
known_is_so k q d h =
    or_is (λ so. so ≡ has (quad_order id_order) d.quads q) (first_told k.scans q) (told_in k.whole q) (first_is k.scans q d h.scans) (whole_is k.whole d q (is_known k.whole q.graph) refl h.whole)

pub known_so : (k : WhatIsKnown) (q : Quad Id) (d : View) (so : Bool) → Knows k d → Some so ≡ told_of k q → so ≡ has (quad_order id_order) d.quads q
known_so k q d so h e = subst (λ o. IfSome o (λ b. b ≡ has (quad_order id_order) d.quads q)) (sym e) (known_is_so k q d h)

pub rising_set : (graphs told : List Id) → graphs ≡ set_of id_order told → IsStrictlySortedBy id_order graphs
rising_set graphs told e = subst (λ xs. IsStrictlySortedBy id_order xs) (sym e) (sorted-set_of id_total told)

-- ---- the first of some quads

module _ (k : WhatIsKnown) (q : Quad Id) (qs : List (Quad Id)) (later : List Read) where
  scans_with : (o : Option Bool) → o ≡ told_of k q
      → scans_for_untold k (q ∷ qs) ++ later ≡ map (λ x. scan_for x) (if is_none o then q ∷ filter (λ x. is_none (told_of k x)) qs else filter (λ x. is_none (told_of k x)) qs) ++ later
  scans_with o e = ap (λ (z : Option Bool). map (λ x. scan_for x) (if is_none z then q ∷ filter (λ x. is_none (told_of k x)) qs else filter (λ x. is_none (told_of k x)) qs) ++ later) (sym e)

  -- it was told before
  pub first_known : (notes : List Note) (d : View) (so : Bool) → Some so ≡ told_of k q → Tell k (scans_for_untold k (q ∷ qs) ++ later) notes d
      → (so ≡ has (quad_order id_order) d.quads q) × Tell k (scans_for_untold k qs ++ later) notes d
  first_known notes d so e t =
      (known_so k q d so t.knows e, record { knows = t.knows; are_noted = t.are_noted ∙ scans_with (Some so) e; agrees = t.agrees })

  -- the first of the notes tells of it
  pub first_noted : (n : Note) (notes : List Note) (d : View) → None ≡ told_of k q → Tell k (scans_for_untold k (q ∷ qs) ++ later) (n ∷ notes) d
      → (has_quads n.answer ≡ has (quad_order id_order) d.quads q) × Tell k (scans_for_untold k qs ++ later) notes d
  first_noted n notes d e t =
      let all : n.read ∷ map (λ m. m.read) notes ≡ scan_for q ∷ (scans_for_untold k qs ++ later) = t.are_noted ∙ scans_with None e in
      let first : n.read ≡ scan_for q = cc in
      let others : map (λ m. m.read) notes ≡ scans_for_untold k qs ++ later = cc in
      (ap has_quads (t.agrees.0 ∙ ap (λ r. says r d) first) ∙ has_it q d, record { knows = t.knows; are_noted = others; agrees = t.agrees.1 })

-- ---- the first of some names

module _ (k : WhatIsKnown) (g : Id) (gs : List Id) (later : List Read) where
  -- the names of all graphs were told before
  pub name_known : (notes : List Note) (d : View) (so : Bool) → so ≡ has id_order k.graphs g → k.has_graphs ≡ true
      → Tell k (questions_for_untold k (g ∷ gs) ++ later) notes d
      → (so ≡ has id_order d.names g) × Tell k (questions_for_untold k gs ++ later) notes d
  name_known notes d so e all t =
      let with : k.has_graphs ≡ true → (names : List Id) → questions_for_untold k names ++ later ≡ later = λ h names. ap (λ (b : Bool). (if b then [] else map (λ x. GraphIs x) names) ++ later) h in
      (e ∙ t.knows.graphs all g, record { knows = t.knows; are_noted = t.are_noted ∙ with all (g ∷ gs) ∙ sym (with all gs); agrees = t.agrees })

  -- the first of the notes tells of it
  pub name_noted : (n : Note) (notes : List Note) (d : View) → k.has_graphs ≡ false → Tell k (questions_for_untold k (g ∷ gs) ++ later) (n ∷ notes) d
      → (has_name n.answer ≡ has id_order d.names g) × Tell k (questions_for_untold k gs ++ later) notes d
  unfolding says
  name_noted n notes d unknown t =
      let all : n.read ∷ map (λ m. m.read) notes ≡ GraphIs g ∷ (map (λ x. GraphIs x) gs ++ later) = t.are_noted ∙ ap (λ (b : Bool). (if b then [] else map (λ x. GraphIs x) (g ∷ gs)) ++ later) unknown in
      let first : n.read ≡ GraphIs g = cc in
      let others : map (λ m. m.read) notes ≡ map (λ x. GraphIs x) gs ++ later = cc in
      (ap has_name (t.agrees.0 ∙ ap (λ r. says r d) first), record { knows = t.knows; are_noted = others ∙ sym (ap (λ (b : Bool). (if b then [] else map (λ x. GraphIs x) gs) ++ later) unknown); agrees = t.agrees.1 })

-- no names, no questions
pub no_names : (k : WhatIsKnown) (later : List Read) → questions_for_untold k [] ++ later ≡ later
no_names k later = chosen k.has_graphs
  where
    chosen : (b : Bool) → (if b then [] else []) ++ later ≡ later
    chosen true = refl
    chosen false = refl

-- ---- the notes of a lot

-- the last notes are those of what was asked for at once
pub lot_told : (k : WhatIsKnown) (reads : List Read) (notes notes' tail : List Note) (n : ℕ) (d : View)
    → AreNoted reads notes notes' → length notes ≡ n → tail ≡ drop n notes' → Knows k d → Agrees notes' d → Tell k reads tail d
lot_told k reads notes notes' tail n d noted e is knows a =
    let behind = noted_behind reads notes notes' tail n d noted e is a in
    record { knows = knows; are_noted = behind.0; agrees = behind.1 }

-- with no reads behind
pub tell_no_more : (k : WhatIsKnown) (reads : List Read) (notes : List Note) (d : View) → Tell k reads notes d → Tell k (reads ++ []) notes d
tell_no_more k reads notes d t = subst (λ rs. Tell k rs notes d) (sym (append-nil reads)) t
