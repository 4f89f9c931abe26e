-- The scan for a triple pattern is near it, and finds its solutions.
use Rattle.std.specs.Prelude.{Bool, true, false, cond, ◌&&◌, ◌⊎◌, ℕ, filter, option_and_then}
use Rattle.std.specs.List.{list_any}
use Rattle.std.specs.Ordering.{is_eq}
use Rattle.std.specs.Cmp.{tied_itself}
use Rattle.std.proofs.lemmas.Bool.{or_left, or_right}
use Rattle.std.proofs.Common.{◌≡◌, List, [], ◌∷◌, Option, Some, None, refl, ap, inl, inr}
use Rattle.sets.specs.Sets.{set_of}
use Rattle.datasets.specs.declared.id.Id.{Id}
use Rattle.datasets.specs.declared.quad.Quad.{Quad}
use Rattle.datasets.specs.declared.read.GraphPlace.TheVariants.{Only}
use Rattle.datasets.specs.declared.read.QuadPattern.{QuadPattern}
use Rattle.datasets.specs.Dataset.{matches, quads_in, same_graph, free_or}
use Rattle.datasets.specs.Id.{id_order, id_total}
use Rattle.algebra.specs.Plans.{Basic}
use Rattle.algebra.specs.declared.pattern.Place.{Place}
use Rattle.algebra.specs.declared.pattern.Place.TheVariants.{Term, Variable}
use Rattle.algebra.specs.declared.pattern.TriplePattern.{TriplePattern}
use Rattle.algebra.specs.declared.template.Slot.{Slot}
use Rattle.meaning.specs.Mapping.{Mapping, mapping_cmp, fitted, empty_mapping}
use Rattle.asking.specs.Near.{is_written, is_graph_written, is_near_quad, is_for_plan, slot_of, quad_of}
use Rattle.meaning.specs.Solutions.{mapping_onto, solutions_among}
use Rattle.eval.specs.Scans.{scan_of, term_of, AskedPatterns}
use Rattle.eval.proofs.Maps.{filter_map-filter_alike}

-- ---- nearness

written_term : (p : Place Id) → is_written id_order (slot_of id_order p) (term_of p) ≡ true
written_term (Term t) = ap is_eq (tied_itself id_total t)
written_term (Variable v) = refl

all_true : (a b c d : Bool) → a ≡ true → b ≡ true → c ≡ true → d ≡ true → (a && (b && (c && d))) ≡ true
all_true a b c d e f g h = λ i. e i && (f i && (g i && h i))

module _ (written : Option (Slot Id)) (graph : Option Id) (here : is_graph_written id_order written (Only graph) ≡ true) where
  near_it : (t : TriplePattern Id) → is_near_quad id_order (quad_of id_order written t) (scan_of t graph) ≡ true
  near_it t = all_true _ _ _ _ (written_term t.subject) (written_term t.predicate) (written_term t.object) here

  asked_among : (ts all : List (TriplePattern Id))
      → ((p : QuadPattern Id) → list_any (λ t. is_near_quad id_order (quad_of id_order written t) p) ts ≡ true → list_any (λ t. is_near_quad id_order (quad_of id_order written t) p) all ≡ true)
      → AskedPatterns (is_for_plan id_order written (Basic all)) graph ts
  asked_among [] all f = tt
  asked_among (t ∷ ts) all f = (f (scan_of t graph) (or_left _ _ (near_it t)), asked_among ts all (λ p h. f p (or_right _ _ h)))

  -- the scans for the triple patterns of a basic pattern are for it
  pub basic_asked : (ts : List (TriplePattern Id)) → AskedPatterns (is_for_plan id_order written (Basic ts)) graph ts
  basic_asked ts = asked_among ts ts (λ p h. h)

-- ---- solutions

-- a place whose term differs has no mapping
no_fit : (p : Place Id) (x : Id) (m : Mapping Id) → free_or id_order (term_of p) x ≡ false → fitted id_order p x m ≡ None
no_fit (Term t) x m e = ap (λ b. cond b (Some m) None) e
no_fit (Variable v) x m e = absurd (cc)

-- a quad that does not match the scan has no mapping
unmatched : (g s p o : Bool) (r : Option (Mapping Id)) → (s ≡ false → r ≡ None) → (p ≡ false → r ≡ None) → (o ≡ false → r ≡ None) → ((s && (p && (o && g))) ≡ g) ⊎ (r ≡ None)
unmatched g true true true r f h k = inl refl
unmatched g false p o r f h k = inr (f refl)
unmatched g true false o r f h k = inr (h refl)
unmatched g true true false r f h k = inr (k refl)

then_nothing : {A B : Type 0} (f : A → Option B) (o : Option A) → ((a : A) → f a ≡ None) → option_and_then f o ≡ None
then_nothing f None h = refl
then_nothing f (Some a) h = h a

alike : (width : ℕ) (t : TriplePattern Id) (g : Option Id) (q : Quad Id) → (matches id_order (scan_of t g) q ≡ same_graph id_order q.graph g) ⊎ (mapping_onto id_order width t q ≡ None)
alike width t g q =
    unmatched (same_graph id_order q.graph g) (free_or id_order (term_of t.subject) q.subject) (free_or id_order (term_of t.predicate) q.predicate) (free_or id_order (term_of t.object) q.object)
    (mapping_onto id_order width t q)
    (λ e. ap (λ o. option_and_then (fitted id_order t.object q.object) (option_and_then (fitted id_order t.predicate q.predicate) o)) (no_fit t.subject q.subject (empty_mapping width) e))
    (λ e. ap (λ o. option_and_then (fitted id_order t.object q.object) o)
    (then_nothing (fitted id_order t.predicate q.predicate) (fitted id_order t.subject q.subject (empty_mapping width)) (λ m. no_fit t.predicate q.predicate m e)))
    (λ e. then_nothing (fitted id_order t.object q.object) (option_and_then (fitted id_order t.predicate q.predicate) (fitted id_order t.subject q.subject (empty_mapping width))) (λ m. no_fit t.object q.object m e))

-- what the scan for a triple pattern finds gives its solutions
pub solutions_scanned : (width : ℕ) (t : TriplePattern Id) (g : Option Id) (quads : List (Quad Id))
    → solutions_among id_order width t (filter (matches id_order (scan_of t g)) quads) ≡ solutions_among id_order width t (quads_in id_order g quads)
solutions_scanned width t g quads =
    ap (set_of (mapping_cmp id_order)) (filter_map-filter_alike (mapping_onto id_order width t) (matches id_order (scan_of t g)) (λ q. same_graph id_order q.graph g) (alike width t g) quads)
