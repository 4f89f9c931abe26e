-- What mappings bind: parts of mappings, merges, and the mapping under which a place of a pattern
-- is a term.
use Rattle.std.proofs.Common.{◌≡◌, ℕ, zero, suc, ◌<◌, Bool, true, false, ◌||◌, [], ◌∷◌, length, Option, Some, None, cond, nat_eq, slice_set, refl, sym, ap, ◌∙◌, subst, arith}
use Rattle.std.specs.Option.{is_some}
use Rattle.std.proofs.lemmas.Bool.{false≢true, and_parts, and_from, or_right, eqb-true, eqb-false, eq-eqb}
use Rattle.std.proofs.lemmas.Option.{cond_some, same_Some}
use Rattle.std.proofs.lemmas.List.{ext_get_or, get_or-set_same, get_or-set_other, length-set}
use Rattle.std.specs.declared.cmp.Ordering.{Ordering}
use Rattle.std.specs.declared.cmp.Ordering.TheVariants.{Equal}
use Rattle.std.specs.Ordering.{is_eq, eq_by_cmp}
use Rattle.std.specs.Cmp.{IsTotalOrder, tied_itself}
use Rattle.std.proofs.Math.Bool.{or-false}
use Rattle.sets.proofs.SetLaws.{exact_by}
use Rattle.algebra.specs.declared.pattern.Place.{Place}
use Rattle.algebra.specs.declared.pattern.Place.TheVariants as place
use Rattle.meaning.specs.Mapping.{Mapping, empty_mapping, term_for, either, merge, bound_to, fitted, agree, compatible}
use Rattle.meaning_laws.specs.BasicPatterns.{is_variable, term_under}

-- ---- options and tests

pub none-not : {A P : Type 0} {x : A} → None ≡ Some x → P
none-not e = absurd (false≢true (ap is_some e))

-- ---- parts of mappings

module _ {K : Type 0} where
  abbrev pub bound : Mapping K → ℕ → Bool
  bound m v = is_some (term_for m v)

  -- all variables of a place are below the width
  abbrev pub IsBelow : ℕ → Place K → Type 0
  IsBelow width p = (v : ℕ) → is_variable v p ≡ true → v < width

  -- b has each term of a
  pub record IsPart (a b : Mapping K) : Type 0 where
    pub at : (v : ℕ) (x : K) → term_for a v ≡ Some x → term_for b v ≡ Some x

  pub itself : (a : Mapping K) → IsPart a a
  itself a = record { at = λ v x e. e }

  pub then_part : (a b c : Mapping K) → IsPart a b → IsPart b c → IsPart a c
  then_part a b c p q = record { at = λ v x e. q.at v x (p.at v x e) }

  pub under_part : (a b : Mapping K) (p : Place K) (x : K) → IsPart a b → term_under a p ≡ Some x → term_under b p ≡ Some x
  under_part a b (place.Term t) x h e = e
  under_part a b (place.Variable v) x h e = h.at v x e

  pub nothing_bound : (width v : ℕ) → term_for {K = K} (empty_mapping width) v ≡ None
  nothing_bound zero v = refl
  nothing_bound (suc w) zero = refl
  nothing_bound (suc w) (suc v) = nothing_bound w v

  pub empty_part : (width : ℕ) (a : Mapping K) → IsPart (empty_mapping width) a
  empty_part width a = record { at = λ v x e. none-not (sym (nothing_bound width v) ∙ e) }

  -- a part that binds as much is the whole
  pub whole : (a b : Mapping K) → length b ≡ length a → IsPart a b → ((v : ℕ) → bound b v ≡ bound a v) → a ≡ b
  whole a b e h same = ext_get_or None a b (sym e) (λ v lt. at (term_for a v) (term_for b v) (h.at v) (same v))
    where
      at : (p q : Option K) → ((x : K) → p ≡ Some x → q ≡ Some x) → is_some q ≡ is_some p → p ≡ q
      at (Some x) q h e = sym (h x refl)
      at None None h e = refl
      at None (Some y) h e = absurd (false≢true (sym e))

  -- ---- merges

  pub length-merge : (a b : Mapping K) → length a ≡ length b → length (merge a b) ≡ length a
  length-merge [] b e = refl
  length-merge (x ∷ a) [] e = absurd (omega (arith, e))
  length-merge (x ∷ a) (y ∷ b) e = ap suc (length-merge a b (omega (arith, e)))

  term-merge : (a b : Mapping K) (v : ℕ) → length a ≡ length b → term_for (merge a b) v ≡ either (term_for a v) (term_for b v)
  term-merge [] [] v e = refl
  term-merge [] (y ∷ b) v e = absurd (omega (arith, e))
  term-merge (x ∷ a) [] v e = absurd (omega (arith, e))
  term-merge (x ∷ a) (y ∷ b) zero e = refl
  term-merge (x ∷ a) (y ∷ b) (suc v) e = term-merge a b v (omega (arith, e))

  pub bound-merge : (a b : Mapping K) (v : ℕ) → length a ≡ length b → bound (merge a b) v ≡ (bound a v || bound b v)
  bound-merge a b v e = ap is_some (term-merge a b v e) ∙ at (term_for a v) (term_for b v)
    where
      at : (p q : Option K) → is_some (either p q) ≡ (is_some p || is_some q)
      at (Some x) q = refl
      at None q = refl

  pub left_part : (a b : Mapping K) → length a ≡ length b → IsPart a (merge a b)
  left_part a b e = record { at = λ v x h. term-merge a b v e ∙ ap (λ o. either o (term_for b v)) h }

  -- what has both has their merge
  pub both_parts : (a b c : Mapping K) → length a ≡ length b → IsPart a c → IsPart b c → IsPart (merge a b) c
  both_parts a b c e p q = record { at = λ v x h. at (term_for c v) x (term_for a v) (term_for b v) (p.at v) (q.at v) (sym (term-merge a b v e) ∙ h) }
    where
      at : (z : Option K) (x : K) (m n : Option K) → ((y : K) → m ≡ Some y → z ≡ Some y) → ((y : K) → n ≡ Some y → z ≡ Some y)
          → either m n ≡ Some x → z ≡ Some x
      at z x (Some y) n f g h = f x h
      at z x None n f g h = g x h

module _ {K : Type 0} {R : K → K → Ordering} (o : IsTotalOrder R) (exact : (x y : K) → R x y ≡ Equal → x ≡ y) where
  same : (x y : K) → x ≡ y → eq_by_cmp R x y ≡ true
  same x y e = ap (λ z. is_eq (R x z)) (sym e) ∙ ap is_eq (tied_itself o x)

  -- ---- compatible mappings

  agree-right : (p : Option K) → agree R p None ≡ true
  agree-right None = refl
  agree-right (Some x) = refl

  agree-at : (a b : Mapping K) (v : ℕ) → compatible R a b ≡ true → agree R (term_for a v) (term_for b v) ≡ true
  agree-at [] b v h = refl
  agree-at (x ∷ a) [] v h = agree-right (term_for (x ∷ a) v)
  agree-at (x ∷ a) (y ∷ b) zero h = (and_parts (agree R x y) (compatible R a b) h).0
  agree-at (x ∷ a) (y ∷ b) (suc v) h = agree-at a b v (and_parts (agree R x y) (compatible R a b) h).1

  compatible-from : (a b : Mapping K) → ((v : ℕ) → agree R (term_for a v) (term_for b v) ≡ true) → compatible R a b ≡ true
  compatible-from [] b h = refl
  compatible-from (x ∷ a) [] h = refl
  compatible-from (x ∷ a) (y ∷ b) h = and_from (agree R x y) (compatible R a b) (h zero) (compatible-from a b (λ v. h (suc v)))

  -- parts of one mapping are compatible
  pub compatible_parts : (a b c : Mapping K) → IsPart a c → IsPart b c → compatible R a b ≡ true
  compatible_parts a b c p q = compatible-from a b (λ v. at (term_for c v) (term_for a v) (term_for b v) (p.at v) (q.at v))
    where
      at : (z m n : Option K) → ((x : K) → m ≡ Some x → z ≡ Some x) → ((y : K) → n ≡ Some y → z ≡ Some y) → agree R m n ≡ true
      at z None n f g = refl
      at z (Some x) None f g = refl
      at z (Some x) (Some y) f g = same x y (same_Some _ _ (sym (f x refl) ∙ g y refl))

  pub right_part : (a b : Mapping K) → length a ≡ length b → compatible R a b ≡ true → IsPart b (merge a b)
  right_part a b e h = record { at = λ v x k. term-merge a b v e ∙ at (term_for a v) (term_for b v) x (agree-at a b v h) k }
    where
      at : (m n : Option K) (x : K) → agree R m n ≡ true → n ≡ Some x → either m n ≡ Some x
      at None n x h k = k
      at (Some y) n x h k = ap Some (exact_by o exact y x (sym (ap (agree R (Some y)) k) ∙ h))

  -- ---- a place of a pattern and a term

  -- b is a with just what is needed for the place to be the term
  pub record IsFit (p : Place K) (x : K) (a b : Mapping K) : Type 0 where
    pub row : length b ≡ length a
    pub part : IsPart a b
    pub binds : (v : ℕ) → bound b v ≡ (bound a v || is_variable v p)
    pub term : term_under b p ≡ Some x

  same_fit : (p : Place K) (x : K) (a b : Mapping K) → a ≡ b → ((v : ℕ) → bound a v ≡ (bound a v || is_variable v p))
      → term_under a p ≡ Some x → IsFit p x a b
  same_fit p x a b e h t = subst (IsFit p x a) e (record { row = refl; part = itself a; binds = h; term = t })

  -- the mapping with the variable bound
  set-at : (a : Mapping K) (v u : ℕ) (x : K) → v < length a → (r : Bool) → nat_eq v u ≡ r
      → term_for (slice_set a v (Some x)) u ≡ cond r (Some x) (term_for a u)
  set-at a v u x lt true e = ap (term_for (slice_set a v (Some x))) (sym (eqb-true v u e)) ∙ get_or-set_same a v (Some x) None lt
  set-at a v u x lt false e = get_or-set_other a v u (Some x) None (λ h. eqb-false v u e (sym h))

  set_fit : (a : Mapping K) (v : ℕ) (x : K) → v < length a → term_for a v ≡ None → IsFit (place.Variable v) x a (slice_set a v (Some x))
  set_fit a v x lt free = record {
    row = length-set a v (Some x);
    part = record { at = λ u y k. set-at a v u x lt (nat_eq v u) refl ∙ kept u y k (nat_eq v u) refl };
    binds = λ u. ap is_some (set-at a v u x lt (nat_eq v u) refl) ∙ more (term_for a u) (nat_eq v u);
    term = get_or-set_same a v (Some x) None lt;
  }
    where
      kept : (u : ℕ) (y : K) → term_for a u ≡ Some y → (r : Bool) → nat_eq v u ≡ r → cond r (Some x) (term_for a u) ≡ Some y
      kept u y k true e = none-not (sym free ∙ ap (term_for a) (eqb-true v u e) ∙ k)
      kept u y k false e = k

      more : (t : Option K) (r : Bool) → is_some (cond r (Some x) t) ≡ (is_some t || r)
      more (Some y) true = refl
      more None true = refl
      more (Some y) false = refl
      more None false = refl

  -- what is found is a fit
  pub fitted_sound : (p : Place K) (x : K) (a b : Mapping K) → IsBelow (length a) p → fitted R p x a ≡ Some b → IsFit p x a b
  fitted_sound (place.Term y) x a b below e =
      let parts = cond_some (eq_by_cmp R x y) a b e in
      same_fit (place.Term y) x a b parts.1 (λ v. sym (or-false (bound a v))) (ap Some (sym (exact_by o exact x y parts.0)))
  fitted_sound (place.Variable v) x a b below e = by (term_for a v) refl e
    where
      taken : (y : K) → term_for a v ≡ Some y → (u : ℕ) (r : Bool) → nat_eq v u ≡ r → bound a u ≡ (bound a u || r)
      taken y h u true k = ap (bound a) (sym (eqb-true v u k)) ∙ ap is_some h ∙ sym (or_right (bound a u) true refl)
      taken y h u false k = sym (or-false (bound a u))

      by : (t : Option K) → term_for a v ≡ t → bound_to R a v x t ≡ Some b → IsFit (place.Variable v) x a b
      by None h k = subst (IsFit (place.Variable v) x a) (same_Some _ _ k) (set_fit a v x (below v (eq-eqb v v refl)) h)
      by (Some y) h k =
          let parts = cond_some (eq_by_cmp R x y) a b k in
          same_fit (place.Variable v) x a b parts.1 (λ u. taken y h u (nat_eq v u) refl) (h ∙ ap Some (sym (exact_by o exact x y parts.0)))

  -- where the place is the term under a mapping that has a, something is found, and that mapping
  -- has it too
  pub fitted_complete : (p : Place K) (x : K) (a m : Mapping K) → IsBelow (length a) p → IsPart a m → term_under m p ≡ Some x
      → (b : Mapping K) × (fitted R p x a ≡ Some b) × (length b ≡ length a) × IsPart b m
  fitted_complete (place.Term y) x a m below h e = (a, ap (λ r. cond r (Some a) None) (same x y (sym (same_Some _ _ e))), refl, h)
  fitted_complete (place.Variable v) x a m below h e = by (term_for a v) refl
    where
      lt : v < length a
      lt = below v (eq-eqb v v refl)

      placed : (u : ℕ) (y : K) (r : Bool) → nat_eq v u ≡ r → cond r (Some x) (term_for a u) ≡ Some y → term_for m u ≡ Some y
      placed u y true k f = ap (term_for m) (sym (eqb-true v u k)) ∙ e ∙ f
      placed u y false k f = h.at u y f

      set_part : IsPart (slice_set a v (Some x)) m
      set_part = record { at = λ u y f. placed u y (nat_eq v u) refl (sym (set-at a v u x lt (nat_eq v u) refl) ∙ f) }

      by : (t : Option K) → term_for a v ≡ t → (b : Mapping K) × (bound_to R a v x t ≡ Some b) × (length b ≡ length a) × IsPart b m
      by None k = (slice_set a v (Some x), refl, length-set a v (Some x), set_part)
      by (Some y) k = (a, ap (λ r. cond r (Some a) None) (same x y (same_Some _ _ (sym e ∙ h.at v y k))), refl, h)
