-- Lines that rise are the set of themselves, whatever the order in which they came before.
use Rattle.std.specs.Prelude.{Bool, ◌&&◌, ◌||◌}
use Rattle.std.proofs.Common.{◌≡◌, ℕ, ◌+◌, ◌<◌, true, cond, List, [], ◌∷◌, ◌++◌, length, get_or, take, map, filter, refl, sym, ap, subst, ◌∙◌}
use Rattle.std.specs.List.{list_any, list_all, flat_map, AllByRecursion}
use Rattle.std.specs.List.Sorted.{IsPermutation, IsStrictlySortedBy}
use Rattle.std.specs.declared.cmp.Ordering.{Ordering}
use Rattle.std.specs.declared.cmp.Ordering.TheVariants.{Less, Equal, Greater}
use Rattle.std.proofs.lemmas.Bool.{false≢true}
use Rattle.std.specs.Ordering.{eq_by_cmp, is_lt}
use Rattle.std.proofs.lemmas.List.{append-nil, append_assoc, map-append, take_more}
use Rattle.std.proofs.lemmas.Grind.{flat_map-append}
use Rattle.std.proofs.lemmas.List.Sorted.{list_any-IsPermutation, All-permutation}
use Rattle.std.proofs.lemmas.List.Sums.{AllPass-from_list_all, list_all-from_AllPass}
use Rattle.std.proofs.Math.Bool.{or_comm}
use Rattle.std.proofs.lemmas.List.Elements.{All-filter, filter-append}
use Rattle.std.proofs.lemmas.List.Folds.{list_any-append}
use Rattle.std.proofs.lemmas.Map.Keys.{sorted_tail, sorted_head}
use Rattle.sets.specs.Sets.{set_of, has}
use Rattle.sets.proofs.SetLaws.{sorted-empty, sorted-cons, sorted-set_of, has-set_of, same_set}
use Rattle.sets.proofs.Every.{all_joined}
use Rattle.sets.proofs.Filters.{any-filter}
use Rattle.terms.specs.Term.{text_cmp}
use Rattle.terms.specs.TermLaws.{text_total, text_exact}
use Rattle.canonical_nquads.specs.Canonical.{ended, text_of_pieces}
use Rattle.canonical_nquads.specs.declared.rising.Rising.{Rising}
use Rattle.canonical_nquads.specs.declared.rising_pieces.RisingInPieces.{RisingInPieces}
use Rattle.datasets.specs.declared.quad.Quad.{Quad}
use Rattle.canonical_nquads.specs.Placed.{quad_text_at}
use Rattle.canonical_nquads.specs.declared.text_parts.OrderedPart.{OrderedPart}
use Rattle.canonical_nquads.specs.Rising.{IsRising, IsRisingInPieces, AreInOrder, StandBehind}
use Rattle.std.specs.Global.{Vec}
use Rattle.canonical_nquads.proofs.CanonicalLaws.{any-map}

pub less_is : (r : Ordering) → is_lt r ≡ true → r ≡ Less
less_is Less e = refl
less_is Equal e = absurd (false≢true e)
less_is Greater e = absurd (false≢true e)

sorted_push : (xs : List (List ℕ)) (y : List ℕ) → IsStrictlySortedBy text_cmp xs → AllByRecursion (λ x. text_cmp x y ≡ Less) xs → IsStrictlySortedBy text_cmp (xs ++ y ∷ [])
sorted_push [] y s below = sorted-cons text_cmp y [] tt (sorted-empty text_cmp)
sorted_push (x ∷ xs) y s below =
    sorted-cons text_cmp x (xs ++ y ∷ []) (all_joined (λ z. text_cmp x z ≡ Less) xs (y ∷ []) (sorted_head text_cmp x xs s) (below.0, tt))
    (sorted_push xs y (sorted_tail text_cmp x xs s) below.1)

all_under : (xs : List (List ℕ)) (line above : List ℕ) → text_cmp line above ≡ Less → AllByRecursion (λ x. text_cmp x line ≡ Less) xs → AllByRecursion (λ x. text_cmp x above ≡ Less) xs
all_under [] line above e h = tt
all_under (x ∷ xs) line above e h = (text_total.trans x line above h.0 e, all_under xs line above e h.1)

pub rising_none : (made : Rising) → made.text.items ≡ [] → IsRising [] made
rising_none made e = record { text = e; rises = sorted-empty text_cmp; last = λ above lt. tt }

pub rising_more : (lines : List (List ℕ)) (made new : Rising) (line : List ℕ) → text_cmp made.last.items line ≡ Less
    → new.text.items ≡ (made.text.items ++ line) ++ 10 ∷ [] → new.last.items ≡ line → IsRising lines made → IsRising (lines ++ line ∷ []) new
rising_more lines made new line lt text last h = record {
  text = text ∙ append_assoc made.text.items line (10 ∷ []) ∙ ap (λ t. t ++ ended line) h.text
      ∙ ap (λ t. flat_map ended lines ++ t) (sym (append-nil (ended line))) ∙ sym (flat_map-append ended lines (line ∷ []));
  rises = sorted_push lines line h.rises (h.last line lt);
  last = λ above e.
      let under : text_cmp line above ≡ Less = ap (λ t. text_cmp t above) (sym last) ∙ e in
      all_joined (λ x. text_cmp x above ≡ Less) lines (line ∷ []) (all_under lines line above under (h.last line lt)) (under, tt);
}

all_over : (x line : List ℕ) (ys : List (List ℕ)) → text_cmp x line ≡ Less → AllByRecursion (λ y. text_cmp line y ≡ Less) ys → AllByRecursion (λ y. text_cmp x y ≡ Less) ys
all_over x line [] e h = tt
all_over x line (y ∷ ys) e h = (text_total.trans x line y e h.0, all_over x line ys e h.1)

-- lines below another, and those from it on
sorted_both : (xs : List (List ℕ)) (line : List ℕ) (ys : List (List ℕ)) → IsStrictlySortedBy text_cmp xs → AllByRecursion (λ x. text_cmp x line ≡ Less) xs
    → IsStrictlySortedBy text_cmp (line ∷ ys) → IsStrictlySortedBy text_cmp (xs ++ line ∷ ys)
sorted_both [] line ys s below t = t
sorted_both (x ∷ xs) line ys s below t =
    sorted-cons text_cmp x (xs ++ line ∷ ys)
    (all_joined (λ y. text_cmp x y ≡ Less) xs (line ∷ ys) (sorted_head text_cmp x xs s) (below.0, all_over x line ys below.0 (sorted_head text_cmp line ys t)))
    (sorted_both xs line ys (sorted_tail text_cmp x xs s) below.1 t)

-- graphs' lines and then quads' lines that rise are the set of both
risen_set : (graphs quads : List (List ℕ)) → IsStrictlySortedBy text_cmp (graphs ++ quads) → graphs ++ quads ≡ set_of text_cmp (quads ++ graphs)
risen_set graphs quads rises =
    same_set text_total text_exact (graphs ++ quads) (set_of text_cmp (quads ++ graphs)) rises (sorted-set_of text_total (quads ++ graphs))
    (λ t. list_any-append (eq_by_cmp text_cmp t) graphs quads ∙ or_comm (list_any (eq_by_cmp text_cmp t) graphs) (list_any (eq_by_cmp text_cmp t) quads)
    ∙ sym (list_any-append (eq_by_cmp text_cmp t) quads graphs) ∙ sym (has-set_of text_total t (quads ++ graphs)))

-- the text of graphs' lines and then quads' lines that rise
pub rising_whole : (made : Rising) (graphs quads : List (List ℕ)) → IsRising (([] ++ graphs) ++ quads) made → made.text.items ≡ flat_map ended (set_of text_cmp (quads ++ graphs))
rising_whole made graphs quads h = h.text ∙ ap (flat_map ended) (risen_set graphs quads h.rises)

-- ---- texts in pieces

pub one_piece : (pieces none : List (Vec ℕ)) (v : Vec ℕ) → none ≡ [] → pieces ≡ none ++ v ∷ [] → text_of_pieces pieces ≡ v.items
one_piece pieces none v e made = ap text_of_pieces (made ∙ ap (λ (vs : List (Vec ℕ)). vs ++ v ∷ []) e) ∙ append-nil v.items

pub pieces_alone : (made : Rising) (whole : RisingInPieces) (lines : List (List ℕ)) → text_of_pieces whole.pieces.items ≡ made.text.items → whole.last.items ≡ made.last.items
    → IsRising lines made → IsRisingInPieces lines whole
pieces_alone made whole lines text last h = record {
  text = text ∙ h.text;
  rises = h.rises;
  last = λ above e. h.last above (ap (λ t. text_cmp t above) (sym last) ∙ e);
}

pub pieces_both : (lines others : List (List ℕ)) (line : List ℕ) (low high new : RisingInPieces) → text_cmp low.last.items line ≡ Less → new.pieces.items ≡ low.pieces.items ++ high.pieces.items
    → new.last.items ≡ high.last.items → IsRisingInPieces lines low → IsRisingInPieces (line ∷ others) high → IsRisingInPieces (lines ++ line ∷ others) new
pieces_both lines others line low high new lt pieces last h k = record {
  text = ap text_of_pieces pieces ∙ flat_map-append (λ (v : Vec ℕ). v.items) low.pieces.items high.pieces.items
      ∙ (λ i. h.text i ++ k.text i) ∙ sym (flat_map-append ended lines (line ∷ others));
  rises = sorted_both lines line others h.rises (h.last line lt) k.rises;
  last = λ above e.
      let over : AllByRecursion (λ x. text_cmp x above ≡ Less) (line ∷ others) = k.last above (ap (λ t. text_cmp t above) (sym last) ∙ e) in
      all_joined (λ x. text_cmp x above ≡ Less) lines (line ∷ others) (all_under lines line above over.0 (h.last line lt)) over;
}

-- the text of graphs' lines and then quads' lines that rise
pub pieces_whole : (made : RisingInPieces) (graphs quads : List (List ℕ)) → IsRisingInPieces (([] ++ graphs) ++ quads) made
    → text_of_pieces made.pieces.items ≡ flat_map ended (set_of text_cmp (quads ++ graphs))
pieces_whole made graphs quads h = h.text ∙ ap (flat_map ended) (risen_set graphs quads h.rises)

-- in another order, quads and names have the same set of lines
module _ {A : Type 0} (f : A → List ℕ) (g : ℕ → List ℕ) (kept : ℕ → Bool) (quads others : List A) (names those : List ℕ)
    (moved : IsPermutation quads others) (moved_names : IsPermutation names those) where
  alike : (t : List ℕ) → has text_cmp (map f others ++ map g (filter kept those)) t ≡ has text_cmp (map f quads ++ map g (filter kept names)) t
  alike t =
      let e : List ℕ → Bool = eq_by_cmp text_cmp t in
      let quads_alike : list_any e (map f others) ≡ list_any e (map f quads) = any-map e f others ∙ sym (list_any-IsPermutation (λ q. e (f q)) quads others moved) ∙ sym (any-map e f quads) in
      let names_alike : list_any e (map g (filter kept those)) ≡ list_any e (map g (filter kept names)) =
      any-map e g (filter kept those) ∙ any-filter (λ n. e (g n)) kept those ∙ sym (list_any-IsPermutation (λ n. kept n && e (g n)) names those moved_names)
      ∙ sym (any-map e g (filter kept names) ∙ any-filter (λ n. e (g n)) kept names) in
      list_any-append e (map f others) (map g (filter kept those)) ∙ (λ i. quads_alike i || names_alike i) ∙ sym (list_any-append e (map f quads) (map g (filter kept names)))

  pub same_lines : set_of text_cmp (map f others ++ map g (filter kept those)) ≡ set_of text_cmp (map f quads ++ map g (filter kept names))
  same_lines =
      let these = map f others ++ map g (filter kept those) in
      let first = map f quads ++ map g (filter kept names) in
      same_set text_total text_exact (set_of text_cmp these) (set_of text_cmp first) (sorted-set_of text_total these) (sorted-set_of text_total first)
      (λ t. has-set_of text_total t these ∙ alike t ∙ sym (has-set_of text_total t first))

pub still_all : {A : Type 0} (p : A → Bool) (xs ys : List A) → IsPermutation xs ys → list_all p xs ≡ true → list_all p ys ≡ true
still_all p xs ys moved h = list_all-from_AllPass p ys (All-permutation (λ x. p x ≡ true) xs ys moved (AllPass-from_list_all p xs h))

-- what all pass, those that are kept pass in any order
pub still_kept : {A : Type 0} (p keep : A → Bool) (xs ys : List A) → IsPermutation (filter keep xs) ys → list_all p xs ≡ true → list_all p ys ≡ true
still_kept p keep xs ys moved h = list_all-from_AllPass p ys (All-permutation (λ x. p x ≡ true) (filter keep xs) ys moved (All-filter keep (λ x. p x ≡ true) xs (AllPass-from_list_all p xs h)))

-- a text, the lines of quads behind it in some order, and those of a part behind these
pub stand_both : (texts : List (List ℕ)) (quads low high : List (Quad ℕ)) (part : OrderedPart) (first made : RisingInPieces) (lines : List (List ℕ))
    → ((those these : List (Quad ℕ)) → IsPermutation low those → IsPermutation high these → IsPermutation quads (those ++ these))
    → AreInOrder texts high part → (k : StandBehind texts low lines first)
    → ((before : List (List ℕ)) → IsRisingInPieces before first → IsRisingInPieces (before ++ map (quad_text_at texts) part.quads.items) made)
    → StandBehind texts quads lines made
stand_both texts quads low high part first made lines both h k more =
    let line = quad_text_at texts in
    record {
      order = k.order ++ part.quads.items;
      moved = both k.order part.quads.items k.moved h.moved;
      rise = subst (λ (all : List (List ℕ)). IsRisingInPieces all made)
          (append_assoc lines (map line k.order) (map line part.quads.items) ∙ ap (λ all. lines ++ all) (sym (map-append line k.order part.quads.items)))
          (more (lines ++ map line k.order) k.rise);
    }

-- one more of a list that is gone through, and the end
pub map_next : {A : Type 0} (f : A → List ℕ) (lines : List (List ℕ)) (xs : List A) (i : ℕ) (x : A) → i < length xs → x ≡ get_or xs i x
    → (lines ++ map f (take i xs)) ++ f x ∷ [] ≡ lines ++ map f (take (i + 1) xs)
map_next f lines xs i x lt is =
    append_assoc lines (map f (take i xs)) (f x ∷ [])
    ∙ ap (λ ys. lines ++ ys) (sym (ap (map f) (take_more xs i x lt ∙ ap (λ y. take i xs ++ y ∷ []) (sym is)) ∙ map-append f (take i xs) (x ∷ [])))

filter_one : {A : Type 0} (p : A → Bool) (x : A) (b : Bool) → p x ≡ b → filter p (x ∷ []) ≡ cond b (x ∷ []) []
filter_one p x b e = ap (λ c. cond c (x ∷ []) []) e

filter_next : {A : Type 0} (p : A → Bool) (xs : List A) (i : ℕ) (x : A) (b : Bool) → i < length xs → x ≡ get_or xs i x → p x ≡ b
    → filter p (take (i + 1) xs) ≡ filter p (take i xs) ++ cond b (x ∷ []) []
filter_next p xs i x b lt is e =
    ap (filter p) (take_more xs i x lt ∙ ap (λ y. take i xs ++ y ∷ []) (sym is)) ∙ filter-append p (take i xs) (x ∷ []) ∙ ap (λ ys. filter p (take i xs) ++ ys) (filter_one p x b e)

pub kept_next : {A : Type 0} (f : A → List ℕ) (p : A → Bool) (lines : List (List ℕ)) (xs : List A) (i : ℕ) (x : A) → i < length xs → x ≡ get_or xs i x → p x ≡ true
    → (lines ++ map f (filter p (take i xs))) ++ f x ∷ [] ≡ lines ++ map f (filter p (take (i + 1) xs))
kept_next f p lines xs i x lt is e =
    append_assoc lines (map f (filter p (take i xs))) (f x ∷ [])
    ∙ ap (λ ys. lines ++ ys) (sym (ap (map f) (filter_next p xs i x true lt is e) ∙ map-append f (filter p (take i xs)) (x ∷ [])))
