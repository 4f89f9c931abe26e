-- Terms gathered with their places, one after another, and put in another order.
use Rattle.std.specs.Prelude.{◌⊎◌, ◌||◌}
use Rattle.std.proofs.Common.{◌≡◌, ℕ, ◌+◌, ◌<◌, ◌≤◌, true, false, List, [], ◌∷◌, ◌++◌, length, map, inl, inr, refl, sym, ap, subst, ◌∙◌, arith, get_or}
use Rattle.std.specs.List.{list_any}
use Rattle.std.specs.List.Sorted.{IsPermutation, IsSorted, IsSortedByKey}
use Rattle.std.specs.Ordering.{is_lt}
use Rattle.std.proofs.lemmas.Bool.{ltb-true, lt-ltb, eq-eqb, cases_lt, or_right}
use Rattle.std.proofs.lemmas.List.{map-append, append_assoc, length-map, length-append, get_or_append_left, get_or-map}
use Rattle.std.proofs.Math.Seq.{get_or-append_seam}
use Rattle.std.proofs.lemmas.List.Elements.{All-append, All-nil, All-cons}
use Rattle.std.proofs.lemmas.List.Folds.{list_any-append}
use Rattle.std.proofs.lemmas.List.Sorted.{All-permutation, list_any-IsPermutation}
use Rattle.terms.specs.declared.term.Term.{Term}
use Rattle.terms.specs.declared.term.Term.TheVariants as term
use Rattle.terms.specs.Term.{term_order}
use Rattle.terms.specs.Placed.{term_at, is_within}
use Rattle.dict.specs.declared.ranks.Placed.{Placed}
use Rattle.dict.specs.Ranks.{term_in, is_at, IsPlaced, ArePlaced, IsGathered}

pub gathered_none : IsGathered [] []
gathered_none = record {
  terms_are = refl;
  placed = record { each = All-nil (IsPlaced []); all = λ place h. absurd (omega (arith, ltb-true place 0 h)) };
}

-- where the terms go on, a place of theirs stays one
pub within_more : (terms more : List Term) (place : ℕ) → is_within terms place ≡ true → is_within (terms ++ more) place ≡ true
within_more terms more place h =
    let lt : place < length terms = ltb-true place (length terms) h in
    let long : length (terms ++ more) ≡ length terms + length more = length-append terms more in
    lt-ltb place (length (terms ++ more)) (omega (arith, lt, long))

module _ (terms : List Term) (list : List Placed) (p : Placed) (h : IsGathered terms list) (e : p.place ≡ length list) where
  as_many : length list ≡ length terms
  as_many = sym (length-map list term_in) ∙ ap length h.terms_are

  -- each keeps its place where the terms go on
  stays : (q : Placed) → IsPlaced terms q → IsPlaced (terms ++ term_in p ∷ []) q
  stays q g =
      (get_or_append_left terms (term_in p ∷ []) (term.Made 0 0 0 0) q.place (ltb-true q.place (length terms) g.1) ∙ g.0, within_more terms (term_in p ∷ []) q.place g.1)

  last_placed : IsPlaced (terms ++ term_in p ∷ []) p
  last_placed = (
    ap (term_at (terms ++ term_in p ∷ [])) (e ∙ as_many) ∙ get_or-append_seam terms (term_in p) [] (term.Made 0 0 0 0),
    lt-ltb p.place (length (terms ++ term_in p ∷ [])) (omega (arith, e, as_many, length-append terms (term_in p ∷ []))),
  )

  -- the place is one of those before, or the new one
  at_some : (place : ℕ) → (place < length terms) ⊎ (length terms ≤ place) → is_within (terms ++ term_in p ∷ []) place ≡ true
      → (list_any (is_at place) list || (is_at place p || false)) ≡ true
  at_some place (inl lt) w = ap (λ b. b || (is_at place p || false)) (h.placed.all place (lt-ltb place (length terms) lt))
  at_some place (inr ge) w =
      let lt : place < length (terms ++ term_in p ∷ []) = ltb-true place (length (terms ++ term_in p ∷ [])) w in
      let is : place ≡ p.place = omega (arith, lt, ge, e, as_many, length-append terms (term_in p ∷ [])) in
      or_right (list_any (is_at place) list) (is_at place p || false) (ap (λ b. b || false) (eq-eqb place p.place is))

  pub gathered_more : IsGathered (terms ++ term_in p ∷ []) (list ++ p ∷ [])
  gathered_more = record {
    terms_are = map-append term_in list (p ∷ []) ∙ ap (λ ts. ts ++ term_in p ∷ []) h.terms_are;
    placed = record {
      each = All-append (IsPlaced (terms ++ term_in p ∷ [])) list (p ∷ []) (λ k d lt. stays (get_or list k d) (h.placed.each k d lt)) (All-cons (IsPlaced (terms ++ term_in p ∷ [])) p [] last_placed (All-nil (IsPlaced (terms ++ term_in p ∷ []))));
      all = λ place w. list_any-append (is_at place) list (p ∷ []) ∙ at_some place (cases_lt place (length terms)) w;
    };
  }

-- one more of a list that goes on where all of the terms before ended
pub gathered_next : (all done : List Term) (list new : List Placed) (p : Placed) → p.place ≡ length list → new ≡ list ++ p ∷ []
    → IsGathered (all ++ done) list → IsGathered (all ++ (done ++ term_in p ∷ [])) new
gathered_next all done list new p place e h =
    subst (λ (xs : List Placed). IsGathered (all ++ (done ++ term_in p ∷ [])) xs) (sym e)
    (subst (λ (ts : List Term). IsGathered ts (list ++ p ∷ [])) (append_assoc all done (term_in p ∷ [])) (gathered_more (all ++ done) list p h place))

-- in another order they are at the same places
pub still_placed : (terms : List Term) (list sorted : List Placed) → IsPermutation list sorted → ArePlaced terms list → ArePlaced terms sorted
still_placed terms list sorted moved h = record {
  each = All-permutation (IsPlaced terms) list sorted moved h.each;
  all = λ place w. sym (list_any-IsPermutation (is_at place) list sorted moved) ∙ h.all place w;
}

-- a sort by their terms sorts the terms
pub sorted_terms : (list : List Placed) → IsSortedByKey term_in term_order list → IsSorted term_order (map term_in list)
sorted_terms [] s k d low high = absurd (omega (arith, high))
sorted_terms (x ∷ xs) s k d low high =
    let n : length (map term_in (x ∷ xs)) ≡ length (x ∷ xs) = length-map (x ∷ xs) term_in in
    let after = get_or-map term_in (x ∷ xs) (k + 1) x d (omega arith) in
    let before = get_or-map term_in (x ∷ xs) k x d (omega arith) in
    (λ i. is_lt (term_order (after i) (before i))) ∙ s k x low (omega arith)
