-- What notes tell of whole graphs is what there is.
use Rattle.std.specs.Prelude.{Bool, true, false, ◌&&◌, ◌||◌, is_none, filter, filter_map, option_to_list, if◌then◌else◌}
use Rattle.std.specs.List.{list_any, cons_option, flat_map}
use Rattle.std.proofs.Common.{◌≡◌, ℕ, suc, ◌+◌, ◌<◌, List, [], ◌∷◌, ◌++◌, length, get_or, drop, Option, Some, None, refl, sym, ap, ◌∙◌, add-one, drop-cons, append_assoc}
use Rattle.std.proofs.lemmas.List.{append-nil}
use Rattle.std.proofs.lemmas.Bool.{false≢true}
use Rattle.sets.specs.Sets.{has, set_of}
use Rattle.sets.proofs.SetLaws.{has-set_of, has-filter, or_swap}
use Rattle.std.specs.Ordering.{eq_by_cmp}
use Rattle.std.proofs.Math.Bool.{and-false, or-true, and-true}
use Rattle.std.proofs.lemmas.List.Folds.{list_any-append}
use Rattle.datasets.specs.declared.id.Id.{Id}
use Rattle.datasets.specs.declared.quad.Quad.{Quad}
use Rattle.datasets.specs.declared.read.GraphPlace.{GraphPlace}
use Rattle.datasets.specs.declared.read.GraphPlace.TheVariants.{Any, Only}
use Rattle.datasets.specs.declared.read.QuadPattern.{QuadPattern}
use Rattle.datasets.specs.declared.read.Read.TheVariants.{Scan, GraphIs, Graphs}
use Rattle.datasets.specs.Dataset.{Quads, quad_order, matches, free_or, in_place}
use Rattle.datasets.specs.Id.{id_order, id_total, id_exact, quad_total, quad_exact}
use Rattle.reads.specs.Reads.{View, Read, Answer, told_quads, says}
use Rattle.reads.specs.Runs.{Agrees}
use Rattle.reads.specs.declared.note.Note.{Note}
use Rattle.update.specs.Whole.{is_whole, whole_place, places_told, told_at, quads_told, is_any, is_default, name_at, WholeGraphs, is_known, KnowsWhole}

-- ---- Bool

and_or : (a b c : Bool) → ((a && b) || (a && c)) ≡ (a && (b || c))
and_or true b c = refl
and_or false b c = refl

-- ---- one note

-- whether a graph is in the place, where there is one
in_some : Option (GraphPlace Id) → Option Id → Bool
in_some None g = false
in_some (Some place) g = in_place id_order place g

all_free : (s p o : Option Id) (a b c : Id) (here : Bool) → (is_none s && (is_none p && is_none o)) ≡ true → (free_or id_order s a && (free_or id_order p b && (free_or id_order o c && here))) ≡ here
all_free None None None a b c here e = refl
all_free None None (Some o) a b c here e = absurd (false≢true e)
all_free None (Some p) o a b c here e = absurd (false≢true e)
all_free (Some s) p o a b c here e = absurd (false≢true e)

scan_told : (p : QuadPattern Id) (d : View) (a : Answer) (q : Quad Id) (b : Bool) → is_whole p ≡ b → a ≡ Quads (filter (matches id_order p) d.quads)
    → has (quad_order id_order) (told_at (if b then Some p.graph else None) (told_quads a)) q ≡ (has (quad_order id_order) d.quads q && in_some (if b then Some p.graph else None) q.graph)
unfolding in_some
scan_told p d a q true e is =
    ap (λ z. has (quad_order id_order) (told_at (Some p.graph) (told_quads z)) q) is
    ∙ has-filter (quad_total id_total) (quad_exact id_order id_exact) (matches id_order p) q d.quads
    ∙ ap (λ b. has (quad_order id_order) d.quads q && b) (all_free p.subject p.predicate p.object q.subject q.predicate q.object (in_place id_order p.graph q.graph) e)
scan_told p d a q false e is = sym (and-false (has (quad_order id_order) d.quads q))

note_told : (r : Read) (d : View) (a : Answer) (q : Quad Id) → a ≡ says r d
    → has (quad_order id_order) (quads_told r a) q ≡ (has (quad_order id_order) d.quads q && in_some (whole_place r) q.graph)
unfolding in_some says
note_told (Scan p) d a q e = scan_told p d a q (is_whole p) refl e
note_told (GraphIs g) d a q e = sym (and-false (has (quad_order id_order) d.quads q))
note_told Graphs d a q e = sym (and-false (has (quad_order id_order) d.quads q))

-- ---- all notes

any_in : (g : Option Id) (o : Option (GraphPlace Id)) (places : List (GraphPlace Id))
    → list_any (λ place. in_place id_order place g) (cons_option o places) ≡ (in_some o g || list_any (λ place. in_place id_order place g) places)
unfolding in_some
any_in g None places = refl
any_in g (Some place) places = refl

pub notes_told : (notes : List Note) (d : View) (q : Quad Id) → Agrees notes d
    → has (quad_order id_order) (flat_map (λ n. quads_told n.read n.answer) notes) q
    ≡ (has (quad_order id_order) d.quads q && list_any (λ place. in_place id_order place q.graph) (places_told notes))
notes_told [] d q a = sym (and-false (has (quad_order id_order) d.quads q))
notes_told (n ∷ ns) d q a =
    let D = has (quad_order id_order) d.quads q in
    list_any-append (eq_by_cmp (quad_order id_order) q) (quads_told n.read n.answer) (flat_map (λ m. quads_told m.read m.answer) ns)
    ∙ (λ i. note_told n.read d n.answer q a.0 i || notes_told ns d q a.1 i)
    ∙ and_or D (in_some (whole_place n.read) q.graph) (list_any (λ place. in_place id_order place q.graph) (places_told ns))
    ∙ ap (λ b. D && b) (sym (any_in q.graph (whole_place n.read) (places_told ns)))

-- ---- which graphs are known

default_known : (places : List (GraphPlace Id)) → (list_any is_any places || list_any is_default places) ≡ list_any (λ place. in_place id_order place None) places
default_known [] = refl
default_known (Any ∷ places) = refl
default_known (Only None ∷ places) = or-true (list_any is_any places)
default_known (Only (Some g) ∷ places) = default_known places

name_known : (g : Id) (places : List (GraphPlace Id)) → (list_any is_any places || has id_order (filter_map name_at places) g) ≡ list_any (λ place. in_place id_order place (Some g)) places
name_known g [] = refl
name_known g (Any ∷ places) = refl
name_known g (Only None ∷ places) = name_known g places
name_known g (Only (Some h) ∷ places) =
    or_swap (list_any is_any places) (eq_by_cmp id_order g h) (has id_order (filter_map name_at places) g) ∙ ap (λ b. eq_by_cmp id_order g h || b) (name_known g places)

known_is : (k : WholeGraphs) (places : List (GraphPlace Id)) → k.is_all ≡ list_any is_any places → k.has_default ≡ list_any is_default places → k.names ≡ set_of id_order (filter_map name_at places)
    → (g : Option Id) → is_known k g ≡ list_any (λ place. in_place id_order place g) places
known_is k places all default names None = (λ i. all i || default i) ∙ default_known places
known_is k places all default names (Some g) =
    (λ i. all i || has id_order (names i) g) ∙ ap (λ b. list_any is_any places || b) (has-set_of id_total g (filter_map name_at places)) ∙ name_known g places

pub known_of_notes : (w : WholeGraphs) (notes : List Note) → w.is_all ≡ list_any is_any (places_told notes) → w.has_default ≡ list_any is_default (places_told notes)
    → w.names ≡ set_of id_order (filter_map name_at (places_told notes)) → w.quads ≡ set_of (quad_order id_order) (flat_map (λ n. quads_told n.read n.answer) notes)
    → (d : View) → Agrees notes d → KnowsWhole w d
known_of_notes w notes all default names quads d a q known =
    ap (λ qs. has (quad_order id_order) qs q) quads
    ∙ has-set_of (quad_total id_total) q (flat_map (λ n. quads_told n.read n.answer) notes)
    ∙ notes_told notes d q a
    ∙ ap (λ b. has (quad_order id_order) d.quads q && b) (sym (known_is w (places_told notes) all default names q.graph) ∙ known)
    ∙ and-true (has (quad_order id_order) d.quads q)

-- ---- the places, one after another

one_more : {A : Type 0} (o : Option A) (xs ys : List A) → (xs ++ option_to_list o) ++ ys ≡ xs ++ cons_option o ys
one_more None xs ys = ap (λ zs. zs ++ ys) (append-nil xs)
one_more (Some x) xs ys = append_assoc xs (x ∷ []) ys

pub drop_next : {A : Type 0} (xs : List A) (i : ℕ) (x : A) → i < length xs → x ≡ get_or xs i x → drop i xs ≡ x ∷ drop (i + 1) xs
drop_next xs i x lt is = rw add-one (drop-cons xs i x lt ∙ ap (λ (y : _). y ∷ drop (suc i) xs) (sym is))

pub placed_more : (notes : List Note) (i : ℕ) (n : Note) (places next : List (GraphPlace Id)) → i < length notes → n ≡ get_or notes i n
    → next ≡ places ++ option_to_list (whole_place n.read) → places ++ places_told (drop i notes) ≡ places_told notes → next ++ places_told (drop (i + 1) notes) ≡ places_told notes
placed_more notes i n places next lt is e h =
    ap (λ ps. ps ++ places_told (drop (i + 1) notes)) e
    ∙ one_more (whole_place n.read) places (places_told (drop (i + 1) notes))
    ∙ ap (λ ns. places ++ places_told ns) (sym (drop_next notes i n lt is))
    ∙ h
