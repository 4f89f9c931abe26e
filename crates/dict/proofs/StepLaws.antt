-- Steps from one term to the next: what rises is in order, and which term is the same as the last
-- that was taken.
use Rattle.std.specs.Prelude.{Bool, ◌⊎◌, ◌||◌, if◌then◌else◌}
use Rattle.std.proofs.Common.{◌≡◌, ℕ, zero, suc, ◌+◌, ◌-◌, ◌<◌, ◌≤◌, true, false, List, [], ◌∷◌, ◌++◌, length, map, take, drop, get_or, inl, inr, refl, sym, ap, subst, ◌∙◌, arith, zero-add}
use Rattle.std.specs.List.{AllZip, list_any, range_with_len}
use Rattle.std.specs.List.Sorted.{IsSortedByKey}
use Rattle.std.specs.Ordering.{eq_by_cmp, is_eq, is_lt}
use Rattle.std.specs.declared.cmp.Ordering.{Ordering}
use Rattle.std.specs.declared.cmp.Ordering.TheVariants.{Less}
use Rattle.std.proofs.lemmas.Bool.{false≢true, cases_lt}
use Rattle.std.proofs.lemmas.List.{get_or_append_left, get_or_default, length-append, length-drop, drop_more, drop_all}
use Rattle.std.proofs.lemmas.List.FromFn.{get_or-range_with_len, length-range_with_len}
use Rattle.std.proofs.Math.Seq.{get_or-append_seam}
use Rattle.terms.specs.declared.term.Term.{Term}
use Rattle.terms.specs.declared.term.Term.TheVariants as term
use Rattle.terms.specs.Term.{term_order}
use Rattle.terms.specs.Hashed.{equal_terms}
use Rattle.dict.specs.declared.ranks.Placed.{Placed}
use Rattle.dict.specs.Dictionary.{is_written}
use Rattle.dict.specs.Ranks.{term_in, ends_with, with_next, taken, IsStep, AreSteps}
use Rattle.dict.proofs.Numbers.{before_made}
use Rattle.dict.proofs.Numbering.{taken_more}

-- ---- one more step that is told

pub steps_more : (list : List Placed) (steps new : List Ordering) (s : Ordering) → new ≡ steps ++ s ∷ [] → IsStep list (length steps) s
    → ((place : ℕ) (d : Ordering) → place < length steps → IsStep list place (get_or steps place d))
    → (place : ℕ) (d : Ordering) → place < length new → IsStep list place (get_or new place d)
steps_more list steps new s made here each place d lt = go (cases_lt place (length steps))
  where
    at : (o : Ordering) → get_or (steps ++ s ∷ []) place d ≡ o → IsStep list place o → IsStep list place (get_or new place d)
    at o e h = subst (λ (x : Ordering). IsStep list place x) (sym (ap (λ (xs : List Ordering). get_or xs place d) made ∙ e)) h

    go : (place < length steps) ⊎ (length steps ≤ place) → IsStep list place (get_or new place d)
    go (inl before) = at (get_or steps place d) (get_or_append_left steps (s ∷ []) d place before) (each place d before)
    go (inr ge) =
        let is : place ≡ length steps = omega (arith, lt, ge, ap length made, length-append steps (s ∷ [])) in
        at s (ap (λ n. get_or (steps ++ s ∷ []) n d) is ∙ get_or-append_seam steps s [] d) (subst (λ n. IsStep list n s) (sym is) here)

zip_length : {A B : Type 0} (R : A → B → Type 0) (xs : List A) (ys : List B) → AllZip R xs ys → length ys ≡ length xs
zip_length R [] [] h = refl
zip_length R [] (y ∷ ys) h = absurd h
zip_length R (x ∷ xs) [] h = absurd h
zip_length R (x ∷ xs) (y ∷ ys) h = ap suc (zip_length R xs ys h.1)

zip_at : {A B : Type 0} (R : A → B → Type 0) (xs : List A) (ys : List B) (i : ℕ) (a : A) (b : B) → AllZip R xs ys → i < length xs → R (get_or xs i a) (get_or ys i b)
zip_at R [] ys i a b h lt = absurd (omega (arith, lt))
zip_at R (x ∷ xs) [] i a b h lt = absurd h
zip_at R (x ∷ xs) (y ∷ ys) zero a b h lt = h.0
zip_at R (x ∷ xs) (y ∷ ys) (suc i) a b h lt = zip_at R xs ys i a b h.1 (omega (arith, lt))

-- all that were told at once
pub steps_of_range : (list : List Placed) (places : List ℕ) (steps : List Ordering) → places ≡ range_with_len 0 (length list) → AllZip (IsStep list) places steps → AreSteps list steps
steps_of_range list places steps are h =
    let long : length places ≡ length list = ap length are ∙ length-range_with_len 0 (length list) in
    record {
      as_many = zip_length (IsStep list) places steps h ∙ long;
      each = λ place d lt.
          let here : get_or places place 0 ≡ place = ap (λ (ns : List ℕ). get_or ns place 0) are ∙ get_or-range_with_len 0 (length list) place 0 lt ∙ zero-add place in
          subst (λ n. IsStep list n (get_or steps place d)) here (zip_at (IsStep list) places steps place 0 d h (omega (arith, lt, long)));
    }

-- ---- what does not fall is in order

none_falls : (steps : List Ordering) (i : ℕ) (d : Ordering) → list_any is_lt steps ≡ false → i < length steps → is_lt (get_or steps i d) ≡ false
none_falls [] i d h lt = absurd (omega (arith, lt))
none_falls (s ∷ ss) zero d h lt = first (is_lt s) (list_any is_lt ss) h
  where
    first : (b c : Bool) → (b || c) ≡ false → b ≡ false
    first true c e = absurd (false≢true (sym e))
    first false c e = refl
none_falls (s ∷ ss) (suc i) d h lt = none_falls ss i d (rest (is_lt s) (list_any is_lt ss) h) (omega (arith, lt))
  where
    rest : (b c : Bool) → (b || c) ≡ false → c ≡ false
    rest true c e = absurd (false≢true (sym e))
    rest false c e = e

pub rises_throughout : (list : List Placed) (steps : List Ordering) → AreSteps list steps → list_any is_lt steps ≡ false → IsSortedByKey term_in term_order list
rises_throughout list steps are none k d low high =
    let here : k + 1 - 1 ≡ k = omega arith in
    let step = (are.each (k + 1) Less high).later d (omega arith) high in
    ap is_lt (sym (step ∙ ap (λ n. term_order (term_in (get_or list (k + 1) d)) (term_in (get_or list n d))) here))
    ∙ none_falls steps (k + 1) Less none (omega (arith, high, are.as_many))

-- ---- which term is the same as the last that was taken

same_end : (found : List Term) (p t : Term) → ends_with found p ≡ true → ends_with found t ≡ eq_by_cmp term_order t p
same_end [] p t e = absurd (false≢true e)
same_end (x ∷ []) p t e = ap (eq_by_cmp term_order t) (sym (equal_terms p x e))
same_end (x ∷ y ∷ ys) p t e = same_end (y ∷ ys) p t e

new_end : (found : List Term) (p t : Term) → ends_with (found ++ p ∷ []) t ≡ eq_by_cmp term_order t p
new_end [] p t = refl
new_end (x ∷ []) p t = refl
new_end (x ∷ y ∷ ys) p t = new_end (y ∷ ys) p t

-- behind a written term that was taken, a list ends with what is the same
ends_next : (found : List Term) (p t : Term) → is_written p ≡ true → ends_with (with_next found p) t ≡ eq_by_cmp term_order t p
ends_next found p t w =
    ap (λ b. ends_with (if b then (if ends_with found p then found else found ++ p ∷ []) else found) t) w ∙ by_end (ends_with found p) refl
  where
    by_end : (b : Bool) → ends_with found p ≡ b → ends_with (if b then found else found ++ p ∷ []) t ≡ eq_by_cmp term_order t p
    by_end true e = same_end found p t e
    by_end false e = new_end found p t

-- what stands in front of a written term is written
written_before : (t p : Term) → is_written t ≡ true → is_lt (term_order t p) ≡ false → is_written p ≡ true
written_before t (term.Iri i) w h = refl
written_before t (term.Literal l) w h = refl
written_before t (term.Blank b) w h = refl
written_before t (term.Made r o l s) w h = absurd (false≢true (sym h ∙ ap is_lt (before_made t r o l s w)))

pub same_as_last : (list : List Placed) (steps : List Ordering) (i : ℕ) (q : Placed) (found : List Term) (d : Ordering) → IsSortedByKey term_in term_order list → AreSteps list steps
    → i < length list → q ≡ get_or list i q → found ≡ taken (map term_in (take i list)) → is_written (term_in q) ≡ true
    → is_eq (get_or steps i d) ≡ ends_with found (term_in q)
same_as_last list steps zero q found d sorted are lt is e w = (are.each zero d lt).first refl ∙ ap (λ (ts : List Term). ends_with ts (term_in q)) (sym e)
same_as_last list steps (suc j) q found d sorted are lt is e w =
    let p = get_or list j q in
    let here : suc j - 1 ≡ j = omega arith in
    let next : j + 1 ≡ suc j = omega arith in
    let before : j < length list = omega (arith, lt) in
    let step : get_or steps (suc j) d ≡ term_order (term_in q) (term_in p) =
    (are.each (suc j) d lt).later q (omega arith) lt
    ∙ ap (λ n. term_order (term_in (get_or list (suc j) q)) (term_in (get_or list n q))) here
    ∙ ap (λ (x : Placed). term_order (term_in x) (term_in p)) (sym is) in
    let low : is_lt (term_order (term_in q) (term_in p)) ≡ false =
    ap (λ (x : Placed). is_lt (term_order (term_in x) (term_in p))) is
    ∙ ap (λ n. is_lt (term_order (term_in (get_or list n q)) (term_in p))) (sym next)
    ∙ sorted j q (omega arith) (omega (arith, lt)) in
    let same : p ≡ get_or list j p = get_or_default list j q p before in
    let made : found ≡ with_next (taken (map term_in (take j list))) (term_in p) =
    e ∙ ap (λ n. taken (map term_in (take n list))) (sym next)
    ∙ sym (taken_more list j p (taken (map term_in (take j list))) (with_next (taken (map term_in (take j list))) (term_in p)) before same refl refl) in
    ap is_eq step
    ∙ sym (ap (λ (ts : List Term). ends_with ts (term_in q)) made
    ∙ ends_next (taken (map term_in (take j list))) (term_in p) (term_in q) (written_before (term_in q) (term_in p) w low))

-- ---- a list that is taken apart from its front

pub head_of_rest : {A : Type 0} (xs : List A) (i : ℕ) (x : A) (rest : List A) → drop i xs ≡ x ∷ rest → (i < length xs) × (x ≡ get_or xs i x) × (rest ≡ drop (i + 1) xs)
head_of_rest {A} xs i x rest e = go (cases_lt i (length xs))
  where
    go : (i < length xs) ⊎ (length xs ≤ i) → (i < length xs) × (x ≡ get_or xs i x) × (rest ≡ drop (i + 1) xs)
    go (inl lt) =
        let parts : x ∷ rest ≡ get_or xs i x ∷ drop (i + 1) xs = sym e ∙ drop_more xs i x lt in
        (lt, ap (λ (l : List A). get_or l 0 x) parts, ap (λ (l : List A). drop 1 l) parts)
    go (inr ge) = absurd (let none : [] ≡ x ∷ rest = sym (drop_all i xs ge) ∙ e in (cc))

pub no_rest : {A : Type 0} (xs : List A) (i : ℕ) → drop i xs ≡ [] → length xs ≤ i
no_rest xs i e = let none : length xs - i ≡ 0 = sym (length-drop i xs) ∙ ap length e in (omega (arith, none))
