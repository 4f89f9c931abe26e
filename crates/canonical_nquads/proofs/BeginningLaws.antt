-- A label begins as a made node's does exactly where its beginning is that mark.
use Rattle.std.specs.Prelude.{Bool, ◌||◌, not, nat_eq, take, cond, ◌^◌}
use Rattle.std.proofs.Common.{◌≡◌, ℕ, zero, suc, ◌+◌, ◌<◌, true, false, List, [], ◌∷◌, ◌++◌, map, refl, sym, ap, ◌∙◌, arith}
use Rattle.std.specs.List.{list_any, list_all, prefix_len, starts_with}
use Rattle.std.specs.Fmt.{decimal}
use Rattle.std.specs.Str.Parse.{AllDigits}
use Rattle.std.specs.Char.{digit_value}
use Rattle.std.specs.declared.cmp.Ordering.{Ordering}
use Rattle.std.specs.declared.cmp.Ordering.TheVariants.{Less, Equal, Greater}
use Rattle.std.specs.Ordering.{eq_by_cmp, is_eq, ordering_reverse}
use Rattle.std.specs.Cmp.{tied_itself, both_ways, Equal-is}
use Rattle.std.proofs.lemmas.Bool.{false≢true, and_parts, and_from, eqb-true, eq-eqb, ne_eqb}
use Rattle.std.proofs.lemmas.Fmt.{decimal_is_IsNumeral}
use Rattle.datasets.specs.declared.quad.Quad.{Quad}
use Rattle.terms.specs.Term.{text_cmp}
use Rattle.terms.specs.TermLaws.{text_total, text_exact}
use Rattle.terms.specs.declared.term.Term.{Term}
use Rattle.terms.specs.declared.term.Term.TheVariants as term
use Rattle.terms.specs.Placed.{term_at, quad_at}
use Rattle.canonical_nquads.specs.Tag.{mark_of, has_mark, is_marked, is_taken}
use Rattle.canonical_nquads.specs.Beginning.{is_not_r, beginning, begins_as, is_begun_in}

head_or : ℕ → List ℕ → ℕ
head_or d [] = d
head_or d (x ∷ xs) = x

tail_of : List ℕ → List ℕ
tail_of [] = []
tail_of (x ∷ xs) = xs

heads_are : (x y : ℕ) (xs ys : List ℕ) → x ∷ xs ≡ y ∷ ys → x ≡ y
unfolding head_or
heads_are x y xs ys e = ap (head_or 0) e

tails_are : (x y : ℕ) (xs ys : List ℕ) → x ∷ xs ≡ y ∷ ys → xs ≡ ys
unfolding tail_of
tails_are x y xs ys e = ap tail_of e

-- the beginning of a label, by its first byte
further : (x : ℕ) (bs : List ℕ) → is_not_r x ≡ true → beginning (x ∷ bs) ≡ x ∷ beginning bs
further x bs h =
    ap (λ c. take (cond c (1 + prefix_len is_not_r bs) 0 + 1) (x ∷ bs)) h
    ∙ ap (λ k. take k (x ∷ bs)) (let e : 1 + prefix_len is_not_r bs + 1 ≡ suc (prefix_len is_not_r bs + 1) = omega arith in e)

ended : (x : ℕ) (bs : List ℕ) → is_not_r x ≡ false → beginning (x ∷ bs) ≡ x ∷ []
ended x bs h = ap (λ c. take (cond c (1 + prefix_len is_not_r bs) 0 + 1) (x ∷ bs)) h

-- a text that ends at its first `r`
module _ where
  begun : (p b : List ℕ) → list_all is_not_r p ≡ true → starts_with nat_eq b (p ++ 114 ∷ []) ≡ true → beginning b ≡ p ++ 114 ∷ []
  begun [] [] h e = absurd (false≢true e)
  begun (y ∷ p) [] h e = absurd (false≢true e)
  begun [] (x ∷ bs) h e =
      let is : x ≡ 114 = sym (eqb-true 114 x (and_parts (nat_eq 114 x) _ e).0) in
      ended x bs (ap is_not_r is) ∙ ap (λ z. z ∷ []) is
  begun (y ∷ p) (x ∷ bs) h e =
      let parts = and_parts (nat_eq y x) _ e in
      let is : x ≡ y = sym (eqb-true y x parts.0) in
      let not_r = and_parts (is_not_r y) _ h in
      further x bs (ap is_not_r is ∙ not_r.0) ∙ (λ i. is i ∷ begun p bs not_r.1 parts.1 i)

  first_r : (x : ℕ) (bs : List ℕ) (c : Bool) → is_not_r x ≡ c → beginning (x ∷ bs) ≡ 114 ∷ [] → x ≡ 114
  first_r x bs true n e = heads_are x 114 (beginning bs) [] (sym (further x bs n) ∙ e)
  first_r x bs false n e = heads_are x 114 [] [] (sym (ended x bs n) ∙ e)

  first_same : (x y : ℕ) (bs p : List ℕ) (c : Bool) → is_not_r x ≡ c → is_not_r y ≡ true → beginning (x ∷ bs) ≡ y ∷ (p ++ 114 ∷ []) → (x ≡ y) × (beginning bs ≡ p ++ 114 ∷ [])
  first_same x y bs p true n h e =
      let same : x ∷ beginning bs ≡ y ∷ (p ++ 114 ∷ []) = sym (further x bs n) ∙ e in
      (heads_are x y (beginning bs) (p ++ 114 ∷ []) same, tails_are x y (beginning bs) (p ++ 114 ∷ []) same)
  first_same x y bs p false n h e =
      let is : x ≡ y = heads_are x y [] (p ++ 114 ∷ []) (sym (ended x bs n) ∙ e) in
      absurd (false≢true (sym n ∙ ap is_not_r is ∙ h))

  starts_cons : (x y : ℕ) (bs m : List ℕ) → nat_eq y x ≡ true → starts_with nat_eq bs m ≡ true → starts_with nat_eq (x ∷ bs) (y ∷ m) ≡ true
  starts_cons x y bs m h e = and_from (nat_eq y x) _ h e

  starts : (p b : List ℕ) → list_all is_not_r p ≡ true → beginning b ≡ p ++ 114 ∷ [] → starts_with nat_eq b (p ++ 114 ∷ []) ≡ true
  starts [] [] h e = absurd (let d : [] ≡ 114 ∷ [] = e in (cc))
  starts (y ∷ p) [] h e = absurd (let d : [] ≡ y ∷ (p ++ 114 ∷ []) = e in (cc))
  starts [] (x ∷ bs) h e = starts_cons x 114 bs [] (eq-eqb 114 x (sym (first_r x bs (is_not_r x) refl e))) refl
  starts (y ∷ p) (x ∷ bs) h e =
      let not_r = and_parts (is_not_r y) (list_all is_not_r p) h in
      let same = first_same x y bs p (is_not_r x) refl not_r.0 e in
      starts_cons x y bs (p ++ 114 ∷ []) (eq-eqb y x (sym same.0)) (starts p bs not_r.1 same.1)

-- no digit is an `r`
digit_is_not_r : (c : ℕ) → digit_value c < 10 → is_not_r c ≡ true
digit_is_not_r c h = ap not (ne_eqb c 114 (λ e. let d : digit_value c ≡ digit_value 114 = ap digit_value e in absurd (omega (arith, h, d))))

digits_are_not_r : (ds : List ℕ) → AllDigits 10 ds → list_all is_not_r ds ≡ true
digits_are_not_r [] h = refl
digits_are_not_r (c ∷ cs) h = and_from (is_not_r c) _ (digit_is_not_r c h.0) (digits_are_not_r cs h.1)

module _ (n : ℕ) (h : n < 2 ^ 32) where
  no_r : list_all is_not_r (109 ∷ decimal n) ≡ true
  no_r = and_from (is_not_r 109) _ refl (digits_are_not_r (decimal n) (decimal_is_IsNumeral n (omega (arith, h))).0.1)

  pub begins_is : (t : Term) → begins_as (mark_of n) t ≡ has_mark (mark_of n) t
  begins_is (term.Iri i) = refl
  begins_is (term.Literal l) = refl
  begins_is (term.Made r o l s) = refl
  begins_is (term.Blank b) =
      both_ways (eq_by_cmp text_cmp (mark_of n) (beginning b)) (starts_with nat_eq b (mark_of n))
      (λ e. starts (109 ∷ decimal n) b no_r (sym (text_exact (mark_of n) (beginning b) ((Equal-is (text_cmp (mark_of n) (beginning b))).0 e))))
      (λ e. ap (eq_by_cmp text_cmp (mark_of n)) (begun (109 ∷ decimal n) b no_r e) ∙ ap is_eq (tied_itself text_total (mark_of n)))

  pub taken_is : (terms : List Term) (quads : List (Quad ℕ)) → list_any (λ q. is_begun_in (mark_of n) (quad_at terms q)) quads ≡ is_taken (map (quad_at terms) quads) n
  taken_is terms [] = refl
  taken_is terms (q ∷ qs) =
      λ i. (begins_is (quad_at terms q).subject i || begins_is (quad_at terms q).object i) || taken_is terms qs i

-- ---- a text that is put in among others

put_by : (r : Ordering) (old : Bool) → cond (is_eq r) true old ≡ (is_eq (ordering_reverse r) || old)
put_by Less old = refl
put_by Equal old = refl
put_by Greater old = refl

pub put_in : (key text : List ℕ) (old : Bool) → cond (eq_by_cmp text_cmp key text) true old ≡ (eq_by_cmp text_cmp text key || old)
put_in key text old = put_by (text_cmp key text) old ∙ ap (λ r. is_eq r || old) (sym (text_total.antisymm text key))

-- ---- terms of which none has a mark

or_false : (a b : Bool) → (a || b) ≡ false → (a ≡ false) × (b ≡ false)
or_false true b e = absurd (false≢true (sym e))
or_false false b e = (refl, e)

no_mark_at : (mark : List ℕ) (terms : List Term) (place : ℕ) → list_any (has_mark mark) terms ≡ false → has_mark mark (term_at terms place) ≡ false
no_mark_at mark [] zero h = refl
no_mark_at mark [] (suc place) h = refl
no_mark_at mark (t ∷ ts) zero h = (or_false (has_mark mark t) (list_any (has_mark mark) ts) h).0
no_mark_at mark (t ∷ ts) (suc place) h = no_mark_at mark ts place (or_false (has_mark mark t) (list_any (has_mark mark) ts) h).1

pub none_marked : (mark : List ℕ) (terms : List Term) (quads : List (Quad ℕ)) → list_any (has_mark mark) terms ≡ false → list_any (is_marked mark) (map (quad_at terms) quads) ≡ false
none_marked mark terms [] h = refl
none_marked mark terms (q ∷ qs) h = λ i. (no_mark_at mark terms q.subject h i || no_mark_at mark terms q.object h i) || none_marked mark terms qs h i
