use Rattle.std.specs.Prelude.{ℕ, suc, ◌+◌, ◌&&◌, not, Bool, length, filter, is_some, unwrap_or, bytes_eq, slice_get}
use Rattle.std.proofs.Common.{◌≡◌, true, false, cond, List, [], ◌∷◌, Option, Some, None, refl, sym, ap, ◌∙◌, subst, arith}
use Rattle.std.specs.List.{Contains}
use Rattle.std.specs.Option.{option_map}
use Rattle.std.specs.BTreeMap.{insert_entry}
use Rattle.std.specs.Cmp.Lexicographic.{bytes_decides, lists_equiv}
use Rattle.std.proofs.lemmas.Cmp.{nat_eq_equiv}
use Rattle.std.proofs.lemmas.Bool.{false≢true}
use Rattle.std.proofs.lemmas.Map.Views.{list_any-from_Contains}
use Rattle.terms.specs.Term.{text_cmp}
use Rattle.names.specs.Numbers.{Labels, with_label, with_labels, label_number}
use Rattle.names.specs.Appearance.{distinct}
use Rattle.names.proofs.AppearanceLaws.{turned, found, is_found, found_after, longer, place, place_is, has_place, filter_twice}
use Rattle.names.proofs.laws.labels_are_numbered_as_they_appear.Goals as goal

abbrev is_new : Labels → List ℕ → Bool
is_new known u = not (is_some (found u known))

abbrev one_more : List ℕ → Labels → Labels
one_more m known = insert_entry text_cmp known m (length known)

-- the labels after a first one, without it
abbrev others : List ℕ → List (List ℕ) → List (List ℕ)
others m ms = filter (λ u. not (bytes_eq m u)) (distinct ms)

-- the number that is there, or the next ones
abbrev or_next : Option ℕ → ℕ → Option ℕ → Option ℕ
or_next (Some n) next o = Some n
or_next None next o = option_map (λ i. next + i) o

with_label_is : (l : List ℕ) (known : Labels) → with_label l known ≡ cond (is_some (found l known)) known (insert_entry text_cmp known l (length known))
with_label_is l known = ap (λ (o : Option ℕ). cond (is_some o) known (insert_entry text_cmp known l (length known))) (is_found l known)

-- what a known label takes out is out
known_drops : (known : Labels) (m : List ℕ) → is_some (found m known) ≡ true → (u : List ℕ) → (not (bytes_eq m u) && is_new known u) ≡ is_new known u
known_drops known m is u = by (bytes_eq m u) refl
  where
    by : (b : Bool) → bytes_eq m u ≡ b → (not b && is_new known u) ≡ is_new known u
    by true same = sym (ap (λ (x : List ℕ). is_new known x) (sym ((bytes_decides m u).0 same)) ∙ ap not is)
    by false same = refl

more_drops : (known : Labels) (m u : List ℕ) → is_new (one_more m known) u ≡ (not (bytes_eq m u) && is_new known u)
more_drops known m u = ap (λ (o : Option ℕ). not (is_some o)) (found_after known m (length known) u) ∙ by (bytes_eq u m) ∙ ap (λ b. not b && is_new known u) (turned u m)
  where
    by : (b : Bool) → not (is_some (cond b (Some (length known)) (found u known))) ≡ (not b && is_new known u)
    by true = refl
    by false = refl

shifted : (n : ℕ) (o p : Option ℕ) → or_next o (suc n) p ≡ or_next o n (option_map suc p)
shifted n (Some k) p = refl
shifted n None None = refl
shifted n None (Some i) = let same : suc n + i ≡ n + suc i = omega arith in ap Some same

at_next : (n : ℕ) (o : Option ℕ) → is_some o ≡ false → Some n ≡ or_next o n (Some 0)
at_next n None h = let same : n ≡ n + 0 = omega arith in ap Some same
at_next n (Some k) h = absurd (false≢true (sym h))

fresh : (known : Labels) (m l : List ℕ) → is_some (found m known) ≡ false → (b : Bool) → bytes_eq l m ≡ b → (p : Option ℕ)
    → or_next (cond b (Some (length known)) (found l known)) (suc (length known)) p ≡ or_next (found l known) (length known) (cond b (Some 0) (option_map suc p))
fresh known m l first true same p = at_next (length known) (found l known) (ap (λ (x : List ℕ). is_some (found x known)) ((bytes_decides l m).0 same) ∙ first)
fresh known m l first false same p = shifted (length known) (found l known) p

numbered : (ls : List (List ℕ)) (known : Labels) (l : List ℕ) → found l (with_labels ls known) ≡ or_next (found l known) (length known) (place l (filter (is_new known) (distinct ls)))
numbered [] known l = same (found l known)
  where
    same : (o : Option ℕ) → o ≡ or_next o (length known) None
    same None = refl
    same (Some n) = refl
numbered (m ∷ ms) known l = ap (λ (k : Labels). found l (with_labels ms k)) (with_label_is m known) ∙ at (λ k. numbered ms k l) (is_some (found m known)) refl
  where
    at : ((k : Labels) → found l (with_labels ms k) ≡ or_next (found l k) (length k) (place l (filter (is_new k) (distinct ms)))) → (b : Bool) → is_some (found m known) ≡ b
        → found l (with_labels ms (cond b known (one_more m known))) ≡ or_next (found l known) (length known) (place l (cond (not b) (m ∷ filter (is_new known) (others m ms)) (filter (is_new known) (others m ms))))
    at later true is =
        later known
        ∙ ap (λ (zs : List (List ℕ)). or_next (found l known) (length known) (place l zs)) (sym (filter_twice (is_new known) (λ u. not (bytes_eq m u)) (is_new known) (known_drops known m is) (distinct ms)))
    at later false is =
        later (one_more m known)
        ∙ ap (λ (zs : List (List ℕ)). or_next (found l (one_more m known)) (length (one_more m known)) (place l zs))
        (sym (filter_twice (is_new known) (λ u. not (bytes_eq m u)) (is_new (one_more m known)) (λ u. sym (more_drops known m u)) (distinct ms)))
        ∙ ap (λ (n : ℕ). or_next (found l (one_more m known)) n (place l (filter (is_new known) (others m ms)))) (longer known m (length known) is)
        ∙ ap (λ (o : Option ℕ). or_next o (suc (length known)) (place l (filter (is_new known) (others m ms)))) (found_after known m (length known) l)
        ∙ fresh known m l is (bytes_eq l m) refl (place l (filter (is_new known) (others m ms)))

all_new : (ms : List (List ℕ)) → filter (is_new []) ms ≡ ms
all_new [] = refl
all_new (m ∷ ms) = ap (λ (zs : List (List ℕ)). m ∷ zs) (all_new ms)

as_they_appear : (ls : List (List ℕ)) (l : List ℕ) → Contains ls l → slice_get (distinct ls) (label_number (with_labels ls []) l) ≡ Some l
as_they_appear ls l among =
    ap (λ (o : Option ℕ). slice_get (distinct ls) (unwrap_or o 0)) (is_found l (with_labels ls []) ∙ numbered ls [] l ∙ ap (λ (zs : List (List ℕ)). option_map (λ i. 0 + i) (place l zs)) (all_new (distinct ls)))
    ∙ at (place l (distinct ls)) refl (has_place l ls (list_any-from_Contains (lists_equiv nat_eq_equiv) l ls among))
  where
    at : (o : Option ℕ) → place l (distinct ls) ≡ o → is_some o ≡ true → slice_get (distinct ls) (unwrap_or (option_map (λ i. 0 + i) o) 0) ≡ Some l
    at None is h = absurd (false≢true h)
    at (Some n) is h = let same : n ≡ 0 + n = omega arith in subst (λ (i : ℕ). slice_get (distinct ls) i ≡ Some l) same (place_is l (distinct ls) n is)

pub returns : goal.returns
returns c = as_they_appear
