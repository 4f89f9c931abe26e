-- Numbers of terms stay where a list of terms goes on, and a list of numbers by their places stands
-- for the terms there.
use Rattle.std.specs.Prelude.{Bool, ◌⊎◌, ◌||◌, ◌==◌, ◌≢◌, nat_lt, if◌then◌else◌, slice_index_or}
use Rattle.std.proofs.Common.{◌≡◌, ℕ, zero, suc, ◌+◌, ◌-◌, ◌<◌, ◌≤◌, true, false, List, [], ◌∷◌, ◌++◌, length, map, take, set, inl, inr, refl, sym, ap, subst, ◌∙◌, arith}
use Rattle.std.specs.List.{list_all, list_any}
use Rattle.std.proofs.lemmas.Bool.{false≢true, ltb-true, lt-ltb, and_from}
use Rattle.std.proofs.lemmas.Bool.Decides.{eqb_tells}
use Rattle.std.proofs.lemmas.List.{length-append, map-append, take_more, get_or_append_left, get_or-set_same, get_or-set_other}
use Rattle.std.proofs.lemmas.List.Folds.{list_any_more}
use Rattle.std.proofs.lemmas.Grind.{fold-append}
use Rattle.std.proofs.Math.Seq.{get_or-append_seam, take-length}
use Rattle.std.specs.Ordering.{eq_by_cmp}
use Rattle.datasets.specs.declared.id.Id.{Id}
use Rattle.datasets.specs.declared.id.Id.TheVariants.{Known, Made}
use Rattle.terms.specs.declared.term.Term.{Term}
use Rattle.terms.specs.declared.term.Term.TheVariants as term
use Rattle.terms.specs.Term.{term_order}
use Rattle.terms.specs.Hashed.{equal_terms}
use Rattle.terms.specs.Placed.{term_at, is_within}
use Rattle.dict.specs.Dictionary.{is_written, term_of, is_known}
use Rattle.dict.specs.declared.ranks.Placed.{Placed}
use Rattle.dict.specs.Ranks.{ArePlaced, term_in, is_at, ends_with, with_next, taken, IsNumberOf, number_in}

number_after : (found more : List Term) (t : Term) (id : Id) → IsNumberOf found t id → IsNumberOf (found ++ more) t id
number_after found more t (Known n) h =
    let lt : n < length found = ltb-true n (length found) h.known in
    record {
      term = get_or_append_left found more (term.Made 0 0 0 0) n lt ∙ h.term;
      known = lt-ltb n (length (found ++ more)) (omega (arith, lt, length-append found more));
    }
number_after found more t (Made r o l s) h = record { term = h.term; known = refl }

-- ---- the last of a list

pub ends_as : (xs : List Term) (t d : Term) → 1 ≤ length xs → eq_by_cmp term_order t (slice_index_or xs (length xs - 1) d) ≡ ends_with xs t
ends_as [] t d h = absurd (omega (arith, h))
ends_as (x ∷ []) t d h = refl
ends_as (x ∷ y ∷ ys) t d h =
    let e : length (x ∷ y ∷ ys) - 1 ≡ suc (length (y ∷ ys) - 1) = omega arith in
    ap (λ n. eq_by_cmp term_order t (slice_index_or (x ∷ y ∷ ys) n d)) e ∙ ends_as (y ∷ ys) t d (omega arith)

last_within : (n m : ℕ) → n ≡ m → 1 ≤ m → nat_lt (n - 1) m ≡ true
last_within n m e h = lt-ltb (n - 1) m (omega (arith, e, h))

ends_in : (xs : List Term) (t : Term) → ends_with xs t ≡ true → 1 ≤ length xs
ends_in [] t e = absurd (false≢true e)
ends_in (x ∷ xs) t e = omega arith

pub number_of_last : (found : List Term) (t : Term) (n : ℕ) → n ≡ length found → ends_with found t ≡ true → IsNumberOf found t (Known (n - 1))
number_of_last found t n e ends = record {
  term = ap (λ m. slice_index_or found (m - 1) (term.Made 0 0 0 0)) e
      ∙ sym (equal_terms t (slice_index_or found (length found - 1) (term.Made 0 0 0 0)) (ends_as found t (term.Made 0 0 0 0) (ends_in found t ends) ∙ ends));
  known = last_within n (length found) e (ends_in found t ends);
}

pub number_of_pushed : (found new : List Term) (t : Term) (n : ℕ) → new ≡ found ++ t ∷ [] → n ≡ length new → IsNumberOf new t (Known (n - 1))
number_of_pushed found new t n is e =
    let long : length new ≡ length found + 1 = ap length is ∙ length-append found (t ∷ []) in
    let place : n - 1 ≡ length found = omega (arith, e, long) in
    record {
      term = ap (λ m. slice_index_or new m (term.Made 0 0 0 0)) place ∙ ap (λ xs. slice_index_or xs (length found) (term.Made 0 0 0 0)) is
          ∙ get_or-append_seam found t [] (term.Made 0 0 0 0);
      known = last_within n (length new) e (omega (arith, long));
    }

pub next_is : (found : List Term) (t : Term) (ends : Bool) → is_written t ≡ true → ends_with found t ≡ ends
    → (if ends then found else found ++ t ∷ []) ≡ with_next found t
next_is found t ends w e = sym (ap (λ b. if b then (if ends_with found t then found else found ++ t ∷ []) else found) w ∙ ap (λ b. if b then found else found ++ t ∷ []) e)

-- ---- numbers kept

-- a number stays one where a term is taken in
pub number_kept : (found : List Term) (next t : Term) (id : Id) → IsNumberOf found t id → IsNumberOf (with_next found next) t id
number_kept found next t id h =
    by_cases (is_written next) (ends_with found next)
  where
    by_cases : (written ends : Bool) → IsNumberOf (if written then (if ends then found else found ++ next ∷ []) else found) t id
    by_cases true true = h
    by_cases true false = number_after found (next ∷ []) t id h
    by_cases false ends = h

-- a number that is put in at its term's place
pub numbers_after : (list : List Placed) (i : ℕ) (q : Placed) (found new : List Term) (ids : List Id) (id : Id)
    → i < length list → q ≡ slice_index_or list i q → q.place < length ids → new ≡ with_next found (term_in q) → IsNumberOf new (term_in q) id
    → (all : List Term) → ArePlaced all list → (place : ℕ)
    → (list_any (is_at place) (take i list) ≡ true → IsNumberOf found (term_at all place) (number_in ids place))
    → list_any (is_at place) (take (i + 1) list) ≡ true → IsNumberOf new (term_at all place) (number_in (set ids q.place id) place)
numbers_after list i q found new ids id lt is within made number all placed place before seen = go (eqb_tells place q.place)
  where
    seen_or : (list_any (is_at place) (take i list) || is_at place q) ≡ true
    seen_or = ap (λ p. list_any (is_at place) (take i list) || is_at place p) is ∙ sym (list_any_more (is_at place) list i q lt) ∙ seen

    go : ((place == q.place) ≡ true) × (place ≡ q.place) ⊎ ((place == q.place) ≡ false) × (place ≢ q.place)
        → IsNumberOf new (term_at all place) (number_in (set ids q.place id) place)
    go (inl same) =
        let there : term_at all place ≡ term_in q =
        ap (term_at all) same.1 ∙ ap (λ p. term_at all p.place) is ∙ (placed.each i q lt).0 ∙ ap term_in (sym is) in
        let put : number_in (set ids q.place id) place ≡ id = ap (number_in (set ids q.place id)) same.1 ∙ get_or-set_same ids q.place id (Known 0) within in
        subst (λ (t : Term). IsNumberOf new t (number_in (set ids q.place id) place)) (sym there)
        (subst (λ (d : Id). IsNumberOf new (term_in q) d) (sym put) number)
    go (inr other) =
        let seen_before : list_any (is_at place) (take i list) ≡ true =
        sym (or_none (list_any (is_at place) (take i list)) (is_at place q) other.0) ∙ seen_or in
        let put : number_in (set ids q.place id) place ≡ number_in ids place = get_or-set_other ids q.place place id (Known 0) other.1 in
        subst (λ (d : Id). IsNumberOf new (term_at all place) d) (sym put)
        (subst (λ (ts : List Term). IsNumberOf ts (term_at all place) (number_in ids place)) (sym made)
        (number_kept found (term_in q) (term_at all place) (number_in ids place) (before seen_before)))
      where
        or_none : (b c : Bool) → c ≡ false → (b || c) ≡ b
        or_none true c e = refl
        or_none false c e = e

pub all_seen : (list : List Placed) (i place : ℕ) → length list ≤ i → i ≤ length list → list_any (is_at place) list ≡ true → list_any (is_at place) (take i list) ≡ true
all_seen list i place ge le h =
    let e : i ≡ length list = omega (arith, ge, le) in
    ap (list_any (is_at place)) (ap (λ n. take n list) e ∙ take-length list) ∙ h

pub taken_more : (list : List Placed) (i : ℕ) (q : Placed) (found new : List Term) → i < length list → q ≡ slice_index_or list i q
    → found ≡ taken (map term_in (take i list)) → new ≡ with_next found (term_in q) → new ≡ taken (map term_in (take (i + 1) list))
taken_more list i q found new lt is e made =
    let more : map term_in (take (i + 1) list) ≡ map term_in (take i list) ++ term_in q ∷ [] =
    ap (map term_in) (take_more list i q lt ∙ ap (λ p. take i list ++ p ∷ []) (sym is)) ∙ map-append term_in (take i list) (q ∷ []) in
    made ∙ ap (λ ts. with_next ts (term_in q)) e ∙ sym (ap taken more ∙ fold-append with_next [] (map term_in (take i list)) (term_in q ∷ []))

pub taken_all : (list : List Placed) (i : ℕ) (found : List Term) → length list ≤ i → i ≤ length list → found ≡ taken (map term_in (take i list)) → found ≡ taken (map term_in list)
taken_all list i found ge le h =
    let e : i ≡ length list = omega (arith, ge, le) in
    h ∙ ap (λ ps. taken (map term_in ps)) (ap (λ n. take n list) e ∙ take-length list)

-- numbers that stand for the terms at their places, from first to last
pub stand_for : (found terms : List Term) (ids : List Id) → length terms ≤ length ids
    → ((place : ℕ) → is_within terms place ≡ true → IsNumberOf found (term_at terms place) (number_in ids place))
    → (map (term_of found) (take (length terms) ids) ≡ terms) × (list_all (is_known found) (take (length terms) ids) ≡ true)
stand_for found [] ids long each = (refl, refl)
stand_for found (t ∷ ts) [] long each = absurd (omega (arith, long))
stand_for found (t ∷ ts) (id ∷ ids) long each =
    let first = each zero (lt-ltb zero (length (t ∷ ts)) (omega arith)) in
    let rest = stand_for found ts ids (omega (arith, long)) (λ place h. each (suc place) (lt-ltb (suc place) (length (t ∷ ts)) (let lt : place < length ts = ltb-true place (length ts) h in omega (arith, lt)))) in
    ((λ i. first.term i ∷ rest.0 i), and_from (is_known found id) _ first.known rest.1)
