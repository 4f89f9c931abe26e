-- What answers count as.
use Rattle.std.proofs.Common.{◌≡◌, ℕ, suc, zero, ◌+◌, ◌<◌, ◌≤◌, Bool, true, false, ◌&&◌, List, [], ◌∷◌, ◌++◌, length, drop, get_or, unwrap_or, Some, Ordering, filter, cond, refl, ap, sym, ◌∙◌, subst}
use Rattle.std.proofs.lemmas.List.{drop_more, drop_all}
use Rattle.std.specs.Prelude.{slice_get}
use Rattle.std.specs.List.{list_all}
use Rattle.std.specs.List.Sorted.{IsStrictlySortedBy}
use Rattle.std.specs.Cmp.{IsTotalOrder}
use Rattle.std.proofs.lemmas.Bool.{and_parts, and_from}
use Rattle.std.proofs.lemmas.List.Kept.{IsStrictlySortedBy-filter}
use Rattle.sets.specs.Sets.{set_of}
use Rattle.sets.proofs.SetLaws.{set_of-set, sorted-set_of}
use Rattle.datasets.specs.declared.id.Id.{Id}
use Rattle.datasets.specs.declared.quad.Quad.{Quad}
use Rattle.datasets.specs.declared.read.QuadPattern.{QuadPattern}
use Rattle.datasets.specs.declared.read.Read.TheVariants.{Scan, GraphIs, Graphs}
use Rattle.datasets.specs.Dataset.{Quads, Is, Names, quad_order, matches}
use Rattle.datasets.specs.Id.{id_order, id_total, id_exact, quad_total, quad_exact}
use Rattle.meaning_laws.specs.Renaming.{quad_known, dataset_known}
use Rattle.meaning_laws.proofs.RenamedSets.{all-set_of}
use Rattle.reads.specs.Reads.{View, Read, Answer, IsDataset, says, told_quads, told_names}
use Rattle.reads.specs.Runs.{Agrees}
use Rattle.reads.specs.declared.note.Note.{Note}
use Rattle.recount.specs.Counted.{counts, counted, counted_note, counted_notes}

-- ---- lists

if_kept : {A : Type 0} (b : Bool) (x : A) (xs : List A) → b ≡ true → cond b (x ∷ xs) xs ≡ x ∷ xs
if_kept true x xs e = refl
if_kept false x xs e = absurd (cc)

pub all_kept : {A : Type 0} (p : A → Bool) (xs : List A) → list_all p xs ≡ true → filter p xs ≡ xs
all_kept p [] h = refl
all_kept p (x ∷ xs) h =
    let parts = and_parts (p x) (list_all p xs) h in
    if_kept (p x) x (filter p xs) parts.0 ∙ ap (λ ys. x ∷ ys) (all_kept p xs parts.1)

pass_if : {A : Type 0} (p : A → Bool) (b : Bool) (x : A) (xs : List A) → (b ≡ true → p x ≡ true) → list_all p xs ≡ true → list_all p (cond b (x ∷ xs) xs) ≡ true
pass_if p true x xs e h = and_from (p x) (list_all p xs) (e refl) h
pass_if p false x xs e h = h

-- what passes one test, of a list of which all pass the other, passes both
all_both : {A : Type 0} (p q : A → Bool) (xs : List A) → list_all q xs ≡ true → list_all (λ x. p x && q x) (filter p xs) ≡ true
all_both p q [] h = refl
all_both p q (x ∷ xs) h =
    let parts = and_parts (q x) (list_all q xs) h in
    pass_if (λ x. p x && q x) (p x) x (filter p xs) (λ e. and_from (p x) (q x) e parts.0) (all_both p q xs parts.1)

-- what passes a test is left by it
own_pass : {A : Type 0} (p : A → Bool) (xs : List A) → list_all p (filter p xs) ≡ true
own_pass p [] = refl
own_pass p (x ∷ xs) = pass_if p (p x) x (filter p xs) (λ e. e) (own_pass p xs)

-- a list that is the set of those of it that pass is a set of which all pass
set_of_those : {A : Type 0} {R : A → A → Ordering} → IsTotalOrder R → (p : A → Bool) (xs : List A) → set_of R (filter p xs) ≡ xs → IsStrictlySortedBy R xs × (list_all p xs ≡ true)
set_of_those {A} {R} total p xs e = (
  subst (IsStrictlySortedBy R) e (sorted-set_of total (filter p xs)),
  subst (λ ys. list_all p ys ≡ true) e (all-set_of R R (λ x. x) p (λ x y h k. refl) (filter p xs) (own_pass p xs)),
)

module _ (known : Id → Bool) where
  -- a set of quads that all count counts as it is
  pub quads_count : (p : QuadPattern Id) (qs : List (Quad Id)) → IsStrictlySortedBy (quad_order id_order) qs → list_all (counts known p) qs ≡ true
      → set_of (quad_order id_order) (filter (counts known p) qs) ≡ qs
  quads_count p qs set all = ap (set_of (quad_order id_order)) (all_kept (counts known p) qs all) ∙ set_of-set (quad_total id_total) (quad_exact id_order id_exact) qs set

  pub names_count : (ns : List Id) → IsStrictlySortedBy id_order ns → list_all known ns ≡ true → set_of id_order (filter known ns) ≡ ns
  names_count ns set all = ap (set_of id_order) (all_kept known ns all) ∙ set_of-set id_total id_exact ns set

  -- ---- notes that count as they are

  told_as_quads : (a : Answer) (qs : List (Quad Id)) → Some qs ≡ told_quads a → Quads qs ≡ a
  told_as_quads (Quads quads) qs e = let same : qs ≡ quads = cc in ap Quads same
  told_as_quads (Is so) qs e = absurd (cc)
  told_as_quads (Names names) qs e = absurd (cc)

  told_as_names : (a : Answer) (ns : List Id) → Some ns ≡ told_names a → Names ns ≡ a
  told_as_names (Names names) ns e = let same : ns ≡ names = cc in ap Names same
  told_as_names (Is so) ns e = absurd (cc)
  told_as_names (Quads quads) ns e = absurd (cc)

  as_read : (n : Note) (r : Read) (a : Answer) → n.read ≡ r → a ≡ n.answer → counted known r a ≡ a → counted_note known n ≡ n
  as_read n r a e f h =
      ap (λ z. record { read = n.read; answer = z }) ((λ i. counted known (e i) (sym f i)) ∙ h ∙ f)

  pub scan_counts : (n : Note) (p : QuadPattern Id) (qs : List (Quad Id)) → n.read ≡ Scan p → Some qs ≡ told_quads n.answer
      → IsStrictlySortedBy (quad_order id_order) qs → list_all (counts known p) qs ≡ true → counted_note known n ≡ n
  scan_counts n p qs e f set all = as_read n (Scan p) (Quads qs) e (told_as_quads n.answer qs f) (ap Quads (quads_count p qs set all))

  pub graphs_count : (n : Note) (ns : List Id) → n.read ≡ Graphs → Some ns ≡ told_names n.answer
      → IsStrictlySortedBy id_order ns → list_all known ns ≡ true → counted_note known n ≡ n
  graphs_count n ns e f set all = as_read n Graphs (Names ns) e (told_as_names n.answer ns f) (ap Names (names_count ns set all))

  -- ---- notes that don't

  as_told : (n : Note) (r : Read) → n.read ≡ r → counted_note known n ≡ n → counted known r n.answer ≡ n.answer
  as_told n r e h = subst (λ z. counted known z n.answer ≡ n.answer) e (ap (λ m. m.answer) h)

  pub scan_told : (n : Note) (p : QuadPattern Id) (qs : List (Quad Id)) → n.read ≡ Scan p → Some qs ≡ told_quads n.answer → counted_note known n ≡ n
      → IsStrictlySortedBy (quad_order id_order) qs × (list_all (counts known p) qs ≡ true)
  scan_told n p qs e f h =
      let told : Some (set_of (quad_order id_order) (filter (counts known p) (unwrap_or (told_quads n.answer) []))) ≡ Some qs = ap told_quads (as_told n (Scan p) e h) ∙ sym f in
      let so : set_of (quad_order id_order) (filter (counts known p) (unwrap_or (Some qs) [])) ≡ qs
      = ap (λ o. set_of (quad_order id_order) (filter (counts known p) (unwrap_or o []))) f ∙ cc in
      set_of_those (quad_total id_total) (counts known p) qs so

  pub graphs_told : (n : Note) (ns : List Id) → n.read ≡ Graphs → Some ns ≡ told_names n.answer → counted_note known n ≡ n
      → IsStrictlySortedBy id_order ns × (list_all known ns ≡ true)
  graphs_told n ns e f h =
      let told : Some (set_of id_order (filter known (unwrap_or (told_names n.answer) []))) ≡ Some ns = ap told_names (as_told n Graphs e h) ∙ sym f in
      let so : set_of id_order (filter known (unwrap_or (Some ns) [])) ≡ ns
      = ap (λ o. set_of id_order (filter known (unwrap_or o []))) f ∙ cc in
      set_of_those id_total known ns so

  -- ---- notes, one after another

  pub next_counts : (notes : List Note) (i : ℕ) (n : Note) → i < length notes → n ≡ get_or notes i n → counted_note known n ≡ n
      → counted_notes known (drop (i + 1) notes) ≡ drop (i + 1) notes → counted_notes known (drop i notes) ≡ drop i notes
  next_counts notes i n lt e h rest =
      let at : drop i notes ≡ n ∷ drop (i + 1) notes = drop_more notes i n lt ∙ ap (λ z. z ∷ drop (i + 1) notes) (sym e) in
      ap (counted_notes known) at ∙ (λ j. h j ∷ rest j) ∙ sym at

  pub none_left : (notes : List Note) (i : ℕ) → length notes ≤ i → counted_notes known (drop i notes) ≡ drop i notes
  none_left notes i le = let none : drop i notes ≡ [] = drop_all i notes le in ap (counted_notes known) none ∙ sym none

  -- ---- what a dataset of known terms says counts as it is

  module _ (d : View) (h : IsDataset d) (all : dataset_known known d ≡ true) where
    parts : (list_all (quad_known known) d.quads ≡ true) × (list_all known d.names ≡ true)
    parts = and_parts (list_all (quad_known known) d.quads) (list_all known d.names) all

    pub says_counts : (r : Read) → counted known r (says r d) ≡ says r d
    unfolding says
    says_counts (Scan p) =
        ap Quads (quads_count p (filter (matches id_order p) d.quads)
        (IsStrictlySortedBy-filter (quad_order id_order) (matches id_order p) d.quads h.quads)
        (all_both (matches id_order p) (quad_known known) d.quads parts.0))
    says_counts (GraphIs g) = refl
    says_counts Graphs = ap Names (names_count d.names h.names parts.1)

    -- notes that such a dataset agrees with are as they count
    pub agrees_counted : (notes : List Note) → Agrees notes d → Agrees (counted_notes known notes) d
    agrees_counted [] a = tt
    agrees_counted (n ∷ notes) a =
        (ap (counted known n.read) a.0 ∙ says_counts n.read, agrees_counted notes a.1)

  -- ---- notes

  pub counted_before : (notes more : List Note) (d : View) → Agrees (counted_notes known (notes ++ more)) d → Agrees (counted_notes known notes) d
  counted_before [] more d a = tt
  counted_before (n ∷ notes) more d a = (a.0, counted_before notes more d a.1)

  pub counted_at : (notes : List Note) (place : ℕ) (n : Note) (d : View) → slice_get notes place ≡ Some n → Agrees (counted_notes known notes) d
      → counted known n.read n.answer ≡ says n.read d
  counted_at [] place n d e a = absurd (cc)
  counted_at (m ∷ notes) zero n d e a = let same : m ≡ n = cc in subst (λ (z : Note). counted known z.read z.answer ≡ says z.read d) same a.0
  counted_at (m ∷ notes) (suc place) n d e a = counted_at notes place n d e a.1
