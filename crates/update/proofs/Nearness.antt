-- The instances of an operation's templates are near it.
use Rattle.std.specs.Prelude.{◌&&◌, ◌||◌, if◌then◌else◌, is_none, filter_map}
use Rattle.std.specs.List.{AllByRecursion, list_any}
use Rattle.std.specs.Option.{option_map}
use Rattle.std.specs.Ordering.{is_eq}
use Rattle.std.specs.Cmp.{tied_itself}
use Rattle.std.proofs.Common.{◌≡◌, ℕ, ◌+◌, ◌<◌, Bool, true, false, List, [], ◌∷◌, length, get_or, Option, Some, None, refl, sym, ap, ◌∙◌}
use Rattle.std.proofs.lemmas.Bool.{false≢true, or_left, or_right, or_cases}
use Rattle.std.proofs.lemmas.Option.{same_Some}
use Rattle.std.proofs.Math.Logic.{⊎_elim}
use Rattle.std.proofs.lemmas.List.Folds.{list_any_at}
use Rattle.sets.proofs.Every.{all_union, all_set_of, all_joined, all_kept, all_filter_map, all_option}
use Rattle.datasets.specs.declared.id.Id.{Id}
use Rattle.datasets.specs.declared.quad.Quad.{Quad}
use Rattle.datasets.specs.declared.read.GraphPlace.TheVariants.{Only}
use Rattle.datasets.specs.declared.read.QuadPattern.{QuadPattern}
use Rattle.datasets.specs.declared.read.Read.TheVariants.{GraphIs}
use Rattle.datasets.specs.Dataset.{quad_order, graph_name, names_of}
use Rattle.datasets.specs.Id.{id_order, id_total}
use Rattle.dict.specs.Dictionary.{numbers}
use Rattle.terms.specs.declared.term.Term.{Term}
use Rattle.meaning.specs.Mapping.{Mapping}
use Rattle.asking.specs.Near.{is_written, is_graph_written, is_near_quad, is_near_deleted, is_near_inserted, is_for_plan, is_near, is_near_request}
use Rattle.meaning.specs.Template.{term_at, graph_at, is_legal, legal_quad, instance_of, instances_from, instances}
use Rattle.algebra.specs.declared.update.Modify.{Modify}
use Rattle.algebra.specs.declared.update.Operation.{Operation}
use Rattle.algebra.specs.declared.update.Operation.TheVariants as operation
use Rattle.algebra.specs.declared.template.QuadTemplate.{QuadTemplate}
use Rattle.algebra.specs.declared.template.Slot.{Slot}
use Rattle.algebra.specs.declared.template.Slot.TheVariants as slot
use Rattle.eval.specs.Changes.{replaced_change}
use Rattle.reads.specs.Reads.{Read, Delta, no_change}
use Rattle.reads.specs.Presence.{scan_for}
use Rattle.update.specs.Asked.{AskedQuads, AskedNames, IsWithin}

-- ---- one quad

pub all_true : (a b c d : Bool) → a ≡ true → b ≡ true → c ≡ true → d ≡ true → (a && (b && (c && d))) ≡ true
all_true a b c d e f g h = λ i. e i && (f i && (g i && h i))

module _ (terms : List Term) (node : ℕ → Id) (m : Mapping Id) where
  slot_near : (s : Slot Id) (x : Id) → term_at (numbers terms) node m s ≡ Some x → is_written id_order s (Some x) ≡ true
  slot_near (slot.Term t) x e = ap (λ z. is_eq (id_order z t)) (sym (same_Some t x e)) ∙ ap is_eq (tied_itself id_total t)
  slot_near (slot.Variable v) x e = refl
  slot_near (slot.Label l) x e = refl

  graph_near : (s : Option (Slot Id)) (g : Option Id) → graph_at (numbers terms) node m s ≡ Some g → is_graph_written id_order s (Only g) ≡ true
  graph_near None g e = ap is_none (sym (same_Some None g e))
  graph_near (Some (slot.Term t)) g e = ap (λ z. is_graph_written id_order (Some (slot.Term t)) (Only z)) (sym (same_Some (Some t) g e)) ∙ ap is_eq (tied_itself id_total t)
  graph_near (Some (slot.Variable v)) g e = refl
  graph_near (Some (slot.Label l)) g e = refl

  -- the terms of a legal quad are those that it was made of
  record IsMade (a b c : Option Id) (g : Option (Option Id)) (q : Quad Id) : Type 0 where
    subject : a ≡ Some q.subject
    predicate : b ≡ Some q.predicate
    object : c ≡ Some q.object
    graph : g ≡ Some q.graph

  made_if : (b : Bool) (s p o : Id) (g : Option Id) (q : Quad Id) → (if b then Some (record { subject = s; predicate = p; object = o; graph = g }) else None) ≡ Some q → IsMade (Some s) (Some p) (Some o) (Some g) q
  made_if true s p o g q e =
      let is = same_Some (record { subject = s; predicate = p; object = o; graph = g }) q e in
      record { subject = ap (λ (x : Quad Id). Some x.subject) is; predicate = ap (λ (x : Quad Id). Some x.predicate) is; object = ap (λ (x : Quad Id). Some x.object) is; graph = ap (λ (x : Quad Id). Some x.graph) is }
  made_if false s p o g q e = absurd (cc)

  made_of : (a b c : Option Id) (g : Option (Option Id)) (q : Quad Id) → legal_quad (numbers terms) a b c g ≡ Some q → IsMade a b c g q
  made_of (Some s) (Some p) (Some o) (Some g) q e = made_if (is_legal (numbers terms) s p g) s p o g q e
  made_of (Some s) (Some p) (Some o) None q e = absurd (cc)
  made_of (Some s) (Some p) None g q e = absurd (cc)
  made_of (Some s) None o g q e = absurd (cc)
  made_of None p o g q e = absurd (cc)

  pub instance_near : (t : QuadTemplate Id) (q : Quad Id) → instance_of (numbers terms) node m t ≡ Some q
      → is_near_quad id_order t (record { subject = Some q.subject; predicate = Some q.predicate; object = Some q.object; graph = Only q.graph }) ≡ true
  instance_near t q e =
      let made = made_of _ _ _ _ q e in
      all_true _ _ _ _ (slot_near t.subject q.subject made.subject) (slot_near t.predicate q.predicate made.predicate) (slot_near t.object q.object made.object) (graph_near t.graph q.graph made.graph)

-- ---- all instances

last_true : (a b c d : Bool) → (a && (b && (c && d))) ≡ true → d ≡ true
last_true true true true d e = e
last_true true true false d e = absurd (false≢true e)
last_true true false c d e = absurd (false≢true e)
last_true false b c d e = absurd (false≢true e)

near_template : List (QuadTemplate Id) → Quad Id → Bool
near_template ts q = list_any (λ t. is_near_quad id_order t (record { subject = Some q.subject; predicate = Some q.predicate; object = Some q.object; graph = Only q.graph })) ts

-- what is near a template's quad is in a graph that it writes
graph_any : (q : Quad Id) (ts : List (QuadTemplate Id)) → near_template ts q ≡ true → list_any (λ t. is_graph_written id_order t.graph (Only q.graph)) ts ≡ true
unfolding near_template
graph_any q [] e = e
graph_any q (t ∷ ts) e =
    let p : QuadPattern Id = record { subject = Some q.subject; predicate = Some q.predicate; object = Some q.object; graph = Only q.graph } in
    ⊎_elim (λ h. or_left _ _ (last_true (is_written id_order t.subject (Some q.subject)) (is_written id_order t.predicate (Some q.predicate)) (is_written id_order t.object (Some q.object)) (is_graph_written id_order t.graph (Only q.graph)) h))
    (λ h. or_right _ _ (graph_any q ts h))
    (or_cases (is_near_quad id_order t p) (near_template ts q) e)

module _ (terms : List Term) (request op : ℕ) (P : Quad Id → Type 0) where
  mapped_near : (node : ℕ → Id) (m : Mapping Id) (ts : List (QuadTemplate Id)) → ((q : Quad Id) → near_template ts q ≡ true → P q) → AllByRecursion P (filter_map (instance_of (numbers terms) node m) ts)
  unfolding near_template
  mapped_near node m [] f = tt
  mapped_near node m (t ∷ ts) f =
      all_option P (instance_of (numbers terms) node m t) _
      (λ q e. f q (or_left _ _ (instance_near terms node m t q e)))
      (mapped_near node m ts (λ q e. f q (or_right _ _ e)))

  from_near : (ts : List (QuadTemplate Id)) → ((q : Quad Id) → near_template ts q ≡ true → P q) → (rank : ℕ) (ms : List (Mapping Id)) → AllByRecursion P (instances_from (numbers terms) request op ts rank ms)
  from_near ts f rank [] = tt
  from_near ts f rank (m ∷ ms) = all_joined P _ _ (mapped_near (λ l. (numbers terms).made request op l rank) m ts f) (from_near ts f (rank + 1) ms)

-- ---- the change of an operation

module _ (terms : List Term) (request op : ℕ) (m : Modify Id) (allowed : Read → Bool) (near : (r : Read) → is_near id_order (operation.Modify m) r ≡ true → allowed r ≡ true) where
  deleted_near : (found : List (Mapping Id)) → AskedQuads allowed (instances (numbers terms) request op m.delete found)
  unfolding near_template
  deleted_near found = from_near terms request op (λ q. allowed (scan_for q) ≡ true) m.delete (λ q e. near (scan_for q) (or_left _ _ e)) 0 found

  inserted_near : (found : List (Mapping Id)) → AskedQuads allowed (instances (numbers terms) request op m.insert found)
  unfolding near_template
  inserted_near found = from_near terms request op (λ q. allowed (scan_for q) ≡ true) m.insert (λ q e. near (scan_for q) (or_right _ _ (or_left _ _ e))) 0 found

  -- the graphs that quads are inserted into
  inserted_in : (q : Quad Id) → near_template m.insert q ≡ true → (g : Id) → q.graph ≡ Some g → allowed (GraphIs g) ≡ true
  inserted_in q e g is =
      let written = ap (λ x. list_any (λ t. is_graph_written id_order t.graph (Only x)) m.insert) (sym is) ∙ graph_any q m.insert e in
      near (GraphIs g)
      (or_right (is_near_deleted id_order m.delete (GraphIs g)) (is_near_inserted id_order m.insert (GraphIs g) || is_for_plan id_order (option_map slot.Term m.active) m.pattern (GraphIs g))
      (or_left (is_near_inserted id_order m.insert (GraphIs g)) (is_for_plan id_order (option_map slot.Term m.active) m.pattern (GraphIs g)) written))

  inserted_named : (found : List (Mapping Id)) → AskedNames allowed (names_of (instances (numbers terms) request op m.insert found))
  inserted_named found =
      all_filter_map (λ g. allowed (GraphIs g) ≡ true) graph_name (instances (numbers terms) request op m.insert found)
      (from_near terms request op (λ q. (g : Id) → q.graph ≡ Some g → allowed (GraphIs g) ≡ true) m.insert inserted_in 0 found)

  pub replaced_within : (c : Delta) (found : List (Mapping Id)) → IsWithin allowed c
      → IsWithin allowed (replaced_change c (instances (numbers terms) request op m.delete found) (instances (numbers terms) request op m.insert found))
  replaced_within c found h =
      let P : Quad Id → Type 0 = λ q. allowed (scan_for q) ≡ true in
      let N : Id → Type 0 = λ g. allowed (GraphIs g) ≡ true in
      record {
        present = all_union P (quad_order id_order) _ _ (all_kept P _ c.present h.present) (inserted_near found);
        absent = all_union P (quad_order id_order) _ _ h.absent (deleted_near found);
        there = all_union N id_order _ _ h.there (inserted_named found);
        gone = all_set_of N id_order _ h.gone;
      }

-- what is for the pattern is near the operation
pub plan_near : (m : Modify Id) (r : Read) → is_for_plan id_order (option_map slot.Term m.active) m.pattern r ≡ true → is_near id_order (operation.Modify m) r ≡ true
plan_near m r e = or_right _ _ (or_right _ _ e)

-- the graph that a pattern begins in is written
pub active_written : (active : Option Id) → is_graph_written id_order (option_map slot.Term active) (Only active) ≡ true
active_written None = refl
active_written (Some g) = ap is_eq (tied_itself id_total g)

-- what is near an operation is near its request
pub request_near : (ops : List (Operation Id)) (i : ℕ) (op : Operation Id) → i < length ops → op ≡ get_or ops i op → (r : Read) → is_near id_order op r ≡ true → is_near_request id_order ops r ≡ true
request_near ops i op h is r e = list_any_at (λ o. is_near id_order o r) ops i op h (ap (λ o. is_near id_order o r) (sym is) ∙ e)

pub no_change_within : (allowed : Read → Bool) → IsWithin allowed no_change
no_change_within allowed = record { present = tt; absent = tt; there = tt; gone = tt }
