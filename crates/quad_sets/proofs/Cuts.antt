-- What changes leave of the members of a set below a value and of the others.
use Rattle.std.specs.Prelude.{not, ◌||◌, ◌&&◌, ◌≢◌}
use Rattle.std.proofs.Common.{◌≡◌, ℕ, ◌<◌, ◌≤◌, Bool, true, false, List, [], ◌∷◌, ◌++◌, length, get_or, take, drop, refl, sym, ap, ◌∙◌, subst, arith}
use Rattle.std.specs.List.{AllByRecursion}
use Rattle.std.specs.List.Sorted.{IsStrictlySortedBy, IsPartitionPoint}
use Rattle.std.specs.declared.cmp.Ordering.{Ordering}
use Rattle.std.specs.declared.cmp.Ordering.TheVariants.{Less, Equal, Greater}
use Rattle.std.specs.Ordering.{eq_by_cmp, is_eq}
use Rattle.std.specs.Cmp.{IsTotalOrder, alike_right}
use Rattle.std.proofs.lemmas.List.{take-append-drop}
use Rattle.std.proofs.lemmas.List.Folds.{list_any-append}
use Rattle.std.proofs.lemmas.Map.Keys.{sorted_tail, sorted_head, Less-from_sorted}
use Rattle.sets.specs.Sets.{has, union, without}
use Rattle.sets.proofs.SetLaws.{sorted-cons, sorted-set_of, has-after, lacks_below, same_set}
use Rattle.sets.proofs.Every.{all_joined, all_kept, all_union, all_weaker}
use Rattle.quad_sets.specs.Runs.{AreLessTo, IsCut}
use Rattle.quad_sets.proofs.RunLaws.{all_taken, sorted_behind, sorted_front, dropped_is, covers_least}

-- what changes leave below the value
low_bools : (s g m : Bool) → (((s || false) && not (g || false)) || (m || false)) ≡ (((s && not g) || m) || ((false && not false) || false))
low_bools true true true = refl
low_bools true true false = refl
low_bools true false true = refl
low_bools true false false = refl
low_bools false true true = refl
low_bools false true false = refl
low_bools false false true = refl
low_bools false false false = refl

module _ {A : Type 0} {R : A → A → Ordering} (o : IsTotalOrder R) (exact : (x y : A) → R x y ≡ Equal → x ≡ y) (v : A) where
  unequal : (q x : A) (r : Ordering) → R q x ≡ r → R x v ≡ Less → (R q v ≢ Less) → is_eq r ≡ false
  unequal q x Less e low not_low = refl
  unequal q x Equal e low not_low = absurd (not_low (ap (λ y. R y v) (exact q x e) ∙ low))
  unequal q x Greater e low not_low = refl

  lacks_low : (q : A) (xs : List A) → (R q v ≢ Less) → AllByRecursion (λ x. R x v ≡ Less) xs → has R xs q ≡ false
  lacks_low q [] not_low low = refl
  lacks_low q (x ∷ xs) not_low low = ap (λ b. b || has R xs q) (unequal q x (R q x) refl low.0 not_low) ∙ lacks_low q xs not_low low.1

  lacks_high : (q : A) (xs : List A) → R q v ≡ Less → AllByRecursion (λ x. R x v ≢ Less) xs → has R xs q ≡ false
  lacks_high q xs low high = lacks_below o q xs (covers_least o v xs high q low)

  sorted_joined : (xs ys : List A) → IsStrictlySortedBy R xs → IsStrictlySortedBy R ys → AllByRecursion (λ x. R x v ≡ Less) xs → AllByRecursion (λ x. R x v ≢ Less) ys → IsStrictlySortedBy R (xs ++ ys)
  sorted_joined [] ys s t low high = t
  sorted_joined (x ∷ xs) ys s t low high =
      sorted-cons R x (xs ++ ys) (all_joined (λ y. R x y ≡ Less) xs ys (sorted_head R x xs s) (covers_least o v ys high x low.0)) (sorted_joined xs ys (sorted_tail R x xs s) t low.1 high)

  not_less : (q : A) (r : Ordering) → R q v ≡ r → (r ≡ Less → ⊥) → R q v ≢ Less
  not_less q r e other h = other (sym e ∙ h)

  module _ (set gone more set_low set_high gone_low gone_high more_low more_high : List A) (s : IsCut R set v set_low set_high) (g : IsCut R gone v gone_low gone_high) (m : IsCut R more v more_low more_high) where
    has_both : (q : A) (xs ys : List A) → has R (xs ++ ys) q ≡ (has R xs q || has R ys q)
    has_both q xs ys = list_any-append (eq_by_cmp R q) xs ys

    -- what is below the value is of the lower lists alone, and what is not, of the higher
    at_low : (q : A) → R q v ≡ Less
        → (((has R set_low q || has R set_high q) && not (has R gone_low q || has R gone_high q)) || (has R more_low q || has R more_high q))
        ≡ (((has R set_low q && not (has R gone_low q)) || has R more_low q) || ((has R set_high q && not (has R gone_high q)) || has R more_high q))
    at_low q e =
        let no_set = lacks_high q set_high e s.rest in
        let no_gone = lacks_high q gone_high e g.rest in
        let no_more = lacks_high q more_high e m.rest in
        (λ i. ((has R set_low q || no_set i) && not (has R gone_low q || no_gone i)) || (has R more_low q || no_more i))
        ∙ low_bools (has R set_low q) (has R gone_low q) (has R more_low q)
        ∙ sym (λ i. ((has R set_low q && not (has R gone_low q)) || has R more_low q) || ((no_set i && not (no_gone i)) || no_more i))

    at_high : (q : A) → (R q v ≢ Less)
        → (((has R set_low q || has R set_high q) && not (has R gone_low q || has R gone_high q)) || (has R more_low q || has R more_high q))
        ≡ (((has R set_low q && not (has R gone_low q)) || has R more_low q) || ((has R set_high q && not (has R gone_high q)) || has R more_high q))
    at_high q e =
        let no_set = lacks_low q set_low e s.less in
        let no_gone = lacks_low q gone_low e g.less in
        let no_more = lacks_low q more_low e m.less in
        (λ i. ((no_set i || has R set_high q) && not (no_gone i || has R gone_high q)) || (no_more i || has R more_high q))
        ∙ sym (λ i. ((no_set i && not (no_gone i)) || no_more i) || ((has R set_high q && not (has R gone_high q)) || has R more_high q))

    at : (q : A) (r : Ordering) → R q v ≡ r
        → (((has R set_low q || has R set_high q) && not (has R gone_low q || has R gone_high q)) || (has R more_low q || has R more_high q))
        ≡ (((has R set_low q && not (has R gone_low q)) || has R more_low q) || ((has R set_high q && not (has R gone_high q)) || has R more_high q))
    at q Less e = at_low q e
    at q Equal e = at_high q (not_less q Equal e (λ h. absurd cc))
    at q Greater e = at_high q (not_less q Greater e (λ h. absurd cc))

    abbrev lower : List A
    lower = union R (without R set_low gone_low) more_low

    abbrev higher : List A
    higher = union R (without R set_high gone_high) more_high

    members : (q : A) → has R (union R (without R (set_low ++ set_high) (gone_low ++ gone_high)) (more_low ++ more_high)) q ≡ has R (lower ++ higher) q
    members q =
        has-after o exact q (set_low ++ set_high) (gone_low ++ gone_high) (more_low ++ more_high)
        ∙ (λ i. (has_both q set_low set_high i && not (has_both q gone_low gone_high i)) || has_both q more_low more_high i)
        ∙ at q (R q v) refl
        ∙ sym (has_both q lower higher ∙ (λ i. has-after o exact q set_low gone_low more_low i || has-after o exact q set_high gone_high more_high i))

    rising : IsStrictlySortedBy R (lower ++ higher)
    rising =
        sorted_joined lower higher (sorted-set_of o (without R set_low gone_low ++ more_low)) (sorted-set_of o (without R set_high gone_high ++ more_high))
        (all_union (λ x. R x v ≡ Less) R (without R set_low gone_low) more_low (all_kept (λ x. R x v ≡ Less) (λ x. not (has R gone_low x)) set_low s.less) m.less)
        (all_union (λ x. R x v ≢ Less) R (without R set_high gone_high) more_high (all_kept (λ x. R x v ≢ Less) (λ x. not (has R gone_high x)) set_high s.rest) m.rest)

    pub changed_cut : union R (without R set gone) more ≡ lower ++ higher
    changed_cut =
        (λ i. union R (without R (s.whole i) (g.whole i)) (m.whole i))
        ∙ same_set o exact _ _ (sorted-set_of o (without R (set_low ++ set_high) (gone_low ++ gone_high) ++ (more_low ++ more_high))) rising members

module _ {A : Type 0} {R : A → A → Ordering} (o : IsTotalOrder R) (v : A) (set : List A) where
  -- ---- where a list is cut

  pub below_found : (place : ℕ) → place < length set → ((d : A) → R (get_or set place d) v ≡ Equal) → IsStrictlySortedBy R set → AreLessTo R v set place
  below_found place within same s = record {
    within = omega (arith, within);
    less = λ k d h. sym (alike_right o (get_or set place d) v (get_or set k d) (same d)) ∙ Less-from_sorted R set k place d s h within;
    next = λ d h n. absurd (let w : Less ≡ Equal = sym n ∙ same d in cc);
  }

  pub below_missing : (place : ℕ) → place ≤ length set → IsPartitionPoint (λ y. R y v ≡ Less) (λ y. R y v ≡ Greater) set place → AreLessTo R v set place
  below_missing place within parted = record {
    within = within;
    less = λ k d h. parted.0 k d (omega arith) h;
    next = λ d h n. absurd (let w : Less ≡ Greater = sym n ∙ parted.1 place d (omega arith) h in cc);
  }

  none_below : (back : List A) → IsStrictlySortedBy R back → ((x : A) (xs : List A) → back ≡ x ∷ xs → R x v ≢ Less) → AllByRecursion (λ y. R y v ≢ Less) back
  none_below [] s first = tt
  none_below (x ∷ xs) s first = (first x xs refl, all_weaker (λ y. R x y ≡ Less) (λ y. R y v ≢ Less) (λ y h n. first x xs refl (o.trans x y v h n)) xs (sorted_head R x xs s))

  pub cut_is : (count : ℕ) (front back : List A) → AreLessTo R v set count → front ≡ take count set → back ≡ drop count set → IsStrictlySortedBy R set → IsCut R set v front back
  cut_is count front back are f b s =
      let whole : set ≡ front ++ back = sym (take-append-drop count set) ∙ (λ i. sym f i ++ sym b i) in
      record {
        whole = whole;
        less = subst (AllByRecursion (λ x. R x v ≡ Less)) (sym f) (all_taken (λ x. R x v ≡ Less) count set are.less are.within);
        rest = none_below back (sorted_behind R front back (subst (IsStrictlySortedBy R) whole s))
            (λ x xs e h. let r = dropped_is o count set x xs (sym b ∙ e) in are.next x r.0 (ap (λ y. R y v) (r.1 x) ∙ h));
      }

  pub cut_rises : (low high : List A) → IsCut R set v low high → IsStrictlySortedBy R set → IsStrictlySortedBy R low × IsStrictlySortedBy R high
  cut_rises low high cut s =
      let t = subst (IsStrictlySortedBy R) cut.whole s in
      (sorted_front R low high t, sorted_behind R low high t)
