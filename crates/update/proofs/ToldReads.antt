-- What notes tell needs no question, and what they don't tell may be asked for.
use Rattle.std.specs.Prelude.{Bool, true, false, map, filter, is_none, if◌then◌else◌}
use Rattle.std.specs.List.{AllByRecursion, list_any}
use Rattle.std.proofs.Common.{◌≡◌, ℕ, ◌<◌, List, [], ◌∷◌, ◌++◌, length, get_or, Option, Result, refl, sym, ap, subst, ◌∙◌}
use Rattle.std.proofs.lemmas.Bool.{false≢true, or_left, or_right, or_cases}
use Rattle.std.proofs.lemmas.List.{map-append}
use Rattle.std.proofs.lemmas.List.Folds.{list_any-append}
use Rattle.std.proofs.lemmas.List.Elements.{filter-append}
use Rattle.std.proofs.Math.Logic.{⊎_elim}
use Rattle.sets.proofs.Every.{all_map, all_of_map, all_joined, all_weaker, all_at, all_by}
use Rattle.datasets.specs.declared.id.Id.{Id}
use Rattle.datasets.specs.declared.quad.Quad.{Quad}
use Rattle.datasets.specs.declared.read.Read.TheVariants.{Scan, GraphIs, Graphs}
use Rattle.asking.specs.Goes.{AreAllowed, AreNoted, Goes}
use Rattle.reads.specs.Reads.{Delta, Read, Answer}
use Rattle.reads.specs.Presence.{scan_for}
use Rattle.reads.specs.declared.note.Note.{Note}
use Rattle.reads.specs.declared.source.Stop.{Stop}
use Rattle.update.specs.Asked.{AskedQuads, AskedNames, IsWithin}
use Rattle.update.specs.Known.{is_of_graphs, is_free_scan, has_free_scan, has_names, is_told, or_told, WhatIsKnown, told_of, KnowsAll, scans_for_untold, questions_for_untold, reads_for_untold}
use Rattle.update.proofs.GraphNearness.{kept_if, asked_more, within_more}

-- ---- notes

still_told : (notes more : List Note) (r : Read) → is_told notes r ≡ true → is_told (notes ++ more) r ≡ true
still_told notes more (Scan p) e = list_any-append (λ (n : Note). is_free_scan n.read) notes more ∙ or_left _ _ e
still_told notes more (GraphIs g) e = list_any-append (λ (n : Note). is_of_graphs n.read) notes more ∙ or_left _ _ e
still_told notes more Graphs e = list_any-append (λ (n : Note). is_of_graphs n.read) notes more ∙ or_left _ _ e

-- what is allowed or told, where more is allowed
pub or_told_at : (allowed more : Read → Bool) → ((r : Read) → allowed r ≡ true → more r ≡ true) → (notes : List Note) (r : Read) → or_told allowed notes r ≡ true → or_told more notes r ≡ true
or_told_at allowed more f notes r e = ⊎_elim (λ h. or_left _ _ (f r h)) (λ h. or_right (more r) _ h) (or_cases (allowed r) (is_told notes r) e)

module _ {S : Type 0} {asks : S → Read → Result Answer Stop → S → Type 0} {any : Read → Bool} {s s' : S} {ns ns' : List Note} {stop : Option Stop} (goes : Goes asks any s s' ns ns' stop) where
  -- what notes tell, those that go on from them tell
  pub or_told_on : (allowed more : Read → Bool) → ((r : Read) → allowed r ≡ true → more r ≡ true) → (r : Read) → or_told allowed ns r ≡ true → or_told more ns' r ≡ true
  or_told_on allowed more f r e =
      ⊎_elim (λ h. or_left _ _ (f r h)) (λ h. or_right (more r) _ (subst (λ notes. is_told notes r ≡ true) (sym goes.noted) (still_told ns goes.more r h)))
      (or_cases (allowed r) (is_told ns r) e)

  pub quads_on : (allowed : Read → Bool) (quads : List (Quad Id)) → AskedQuads (or_told allowed ns) quads → AskedQuads (or_told allowed ns') quads
  quads_on allowed quads h = asked_more (or_told allowed ns) (or_told allowed ns') (or_told_on allowed allowed (λ r e. e)) quads h

  pub within_on : (allowed : Read → Bool) (c : Delta) → IsWithin (or_told allowed ns) c → IsWithin (or_told allowed ns') c
  within_on allowed c h = within_more (or_told allowed ns) (or_told allowed ns') (or_told_on allowed allowed (λ r e. e)) c h

-- what is told of the one read that was noted
noted_one : (f : Read → Bool) (r : Read) (more : List Note) → map (λ n. n.read) more ≡ r ∷ [] → f r ≡ true → list_any (λ n. f n.read) more ≡ true
noted_one f r [] e h = absurd (let none : [] ≡ r ∷ [] = e in cc)
noted_one f r (n ∷ ns) e h =
    let all : n.read ∷ map (λ m. m.read) ns ≡ r ∷ [] = e in
    let same : n.read ≡ r = cc in
    or_left _ _ (ap f same ∙ h)

pub noted_any : (f : Read → Bool) (r : Read) (notes notes' : List Note) → AreNoted (r ∷ []) notes notes' → f r ≡ true → list_any (λ n. f n.read) notes' ≡ true
noted_any f r notes notes' a h =
    ap (λ ns. list_any (λ (n : Note). f n.read) ns) a.1 ∙ list_any-append (λ (n : Note). f n.read) notes a.0 ∙ or_right _ _ (noted_one f r a.0 a.2 h)

-- ---- what is asked for is allowed, since all else is told

module _ (allowed : Read → Bool) (k : WhatIsKnown) (notes : List Note) (all : KnowsAll k notes) where
  untold : (quads : List (Quad Id)) → AskedQuads (or_told allowed notes) quads → AllByRecursion (λ q. allowed (scan_for q) ≡ true) (filter (λ q. is_none (told_of k q)) quads)
  untold [] h = tt
  untold (q ∷ qs) h =
      kept_if (λ x. allowed (scan_for x) ≡ true) q (filter (λ x. is_none (told_of k x)) qs) (is_none (told_of k q))
      (λ none. ⊎_elim (λ e. e) (λ e. absurd (false≢true (sym (all.quads e q) ∙ none))) (or_cases (allowed (scan_for q)) (has_free_scan notes) h.0))
      (untold qs h.1)

  quads_allowed : (quads : List (Quad Id)) → AskedQuads (or_told allowed notes) quads → AreAllowed allowed (scans_for_untold k quads)
  quads_allowed quads h = all_map (λ r. allowed r ≡ true) (λ q. scan_for q) _ (untold quads h)

  names_allowed : (names : List Id) → AskedNames (or_told allowed notes) names → AreAllowed allowed (questions_for_untold k names)
  names_allowed names h = chosen k.has_graphs refl
    where
      asked : (g : Id) → k.has_graphs ≡ false → or_told allowed notes (GraphIs g) ≡ true → allowed (GraphIs g) ≡ true
      asked g none e = ⊎_elim (λ h. h) (λ h. absurd (false≢true (sym none ∙ all.names h))) (or_cases (allowed (GraphIs g)) (has_names notes) e)

      chosen : (b : Bool) → k.has_graphs ≡ b → AreAllowed allowed (if b then [] else map (λ g. GraphIs g) names)
      chosen true e = tt
      chosen false e = all_map (λ r. allowed r ≡ true) (λ g. GraphIs g) names (all_weaker (λ g. or_told allowed notes (GraphIs g) ≡ true) (λ g. allowed (GraphIs g) ≡ true) (λ g h. asked g e h) names h)

  pub change_allowed : (c : Delta) → IsWithin (or_told allowed notes) c → AreAllowed allowed (reads_for_untold k c)
  change_allowed c h =
      let names = all_joined (λ r. allowed r ≡ true) _ _ (names_allowed c.there h.there) (names_allowed c.gone h.gone) in
      all_joined (λ r. allowed r ≡ true) _ _ (quads_allowed c.present h.present) (all_joined (λ r. allowed r ≡ true) _ _ (quads_allowed c.absent h.absent) names)

-- ---- parts of what is asked for

-- the scans for some quads, and then for others
pub scans_both : (k : WhatIsKnown) (quads others : List (Quad Id)) → scans_for_untold k (quads ++ others) ≡ scans_for_untold k quads ++ scans_for_untold k others
scans_both k quads others =
    ap (map (λ q. scan_for q)) (filter-append (λ q. is_none (told_of k q)) quads others)
    ∙ map-append (λ q. scan_for q) (filter (λ q. is_none (told_of k q)) quads) (filter (λ q. is_none (told_of k q)) others)

-- the question for one of some names
pub one_question : (allowed : Read → Bool) (k : WhatIsKnown) (names : List Id) (i : ℕ) (d : Id) → i < length names
    → AreAllowed allowed (questions_for_untold k names) → AreAllowed allowed (questions_for_untold k (get_or names i d ∷ []))
one_question allowed k names i d lt h = chosen k.has_graphs h
  where
    chosen : (b : Bool) → AreAllowed allowed (if b then [] else map (λ g. GraphIs g) names) → AreAllowed allowed (if b then [] else map (λ g. GraphIs g) (get_or names i d ∷ []))
    chosen true h = tt
    chosen false h = (all_at (λ g. allowed (GraphIs g) ≡ true) names i d (all_of_map (λ r. allowed r ≡ true) (λ g. GraphIs g) names h) lt, tt)

-- where all reads are allowed, these are
pub any_allowed : (reads : List Read) → AreAllowed (λ r. true) reads
any_allowed reads = all_by (λ r. true ≡ true) (λ r. refl) reads
