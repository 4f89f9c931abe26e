-- The laws of datasets and changes: both sides are rising lists with the same members.
use Rattle.std.specs.Prelude.{Bool, not, filter, ◌||◌, ◌&&◌}
use Rattle.std.proofs.Common.{◌≡◌, true, false, List, [], ◌∷◌, ◌++◌, refl, sym, ap, ◌∙◌}
use Rattle.std.proofs.lemmas.Bool.{false≢true, or_parts}
use Rattle.std.proofs.lemmas.List.Kept.{IsStrictlySortedBy-filter}
use Rattle.std.specs.List.{list_any}
use Rattle.std.specs.List.Sorted.{IsStrictlySortedBy}
use Rattle.std.specs.declared.cmp.Ordering.{Ordering}
use Rattle.std.specs.declared.cmp.Ordering.TheVariants.{Less, Equal, Greater}
use Rattle.std.specs.Ordering.{is_eq}
use Rattle.std.specs.Cmp.{IsTotalOrder}
use Rattle.std.proofs.Math.Bool.{and-false, and-true, or-true}
use Rattle.sets.specs.Sets.{has, union, without}
use Rattle.sets.proofs.SetLaws.{same_set, sorted-set_of, has-filter, has-after}
use Rattle.datasets.specs.declared.quad.Quad.{Quad}
use Rattle.datasets.specs.declared.read.Read.TheVariants.{Scan, GraphIs, Graphs}
use Rattle.datasets.specs.Dataset.{Told, Quads, Is, Names, quad_order, matches}
use Rattle.datasets.specs.Id.{quad_exact, quad_total}
use Rattle.change_laws.specs.Laws.{UncoveredKeeps, SameAfter, RisesAfter, SaysRising}

-- ---- Bool

-- a member that is neither put in nor taken out, where the test holds
unchanged : (x a b p : Bool) → (p ≡ true → a ≡ false) → (p ≡ true → b ≡ false) → (((x && not a) || b) && p) ≡ (x && p)
unchanged true false false p f g = refl
unchanged false a false p f g = refl
unchanged true a b false f g = and-false ((true && not a) || b)
unchanged true true b true f g = absurd (false≢true (sym (f refl)))
unchanged true false true true f g = refl
unchanged false a true true f g = absurd (false≢true (sym (g refl)))
unchanged false a true false f g = refl

-- what is a member after depends, where the test holds, on what was a member before
depends : (x y a b p : Bool) → (x && p) ≡ (y && p) → (((x && not a) || b) && p) ≡ (((y && not a) || b) && p)
depends x y a b true h = ap (λ z. ((z && not a) || b) && true) (sym (and-true x) ∙ h ∙ and-true y)
depends x y a b false h = and-false ((x && not a) || b) ∙ sym (and-false ((y && not a) || b))

-- ---- sets after a change

module _ {A : Type 0} {R : A → A → Ordering} (o : IsTotalOrder R) (exact : (x y : A) → R x y ≡ Equal → x ≡ y) where
  -- no member matches, so what matches is no member
  lacks : (p : A → Bool) (q : A) (ys : List A) → list_any p ys ≡ false → p q ≡ true → has R ys q ≡ false
  lacks p q [] h e = refl
  lacks p q (y ∷ ys) h e =
      let parts = or_parts (p y) (list_any p ys) h in
      at (R q y) refl parts.0 (lacks p q ys parts.1 e)
    where
      at : (r : Ordering) → R q y ≡ r → p y ≡ false → has R ys q ≡ false → (is_eq (R q y) || has R ys q) ≡ false
      at Less k bare rest = ap (λ t. is_eq t || has R ys q) k ∙ rest
      at Greater k bare rest = ap (λ t. is_eq t || has R ys q) k ∙ rest
      at Equal k bare rest = absurd (false≢true (sym bare ∙ ap p (sym (exact q y k)) ∙ e))

  has-filtered : (p : A → Bool) (q : A) (xs gone more : List A) → has R (filter p (union R (without R xs gone) more)) q ≡ (((has R xs q && not (has R gone q)) || has R more q) && p q)
  has-filtered p q xs gone more = has-filter o exact p q (union R (without R xs gone) more) ∙ ap (λ b. b && p q) (has-after o exact q xs gone more)

  sorted-after : (xs gone more : List A) → IsStrictlySortedBy R (union R (without R xs gone) more)
  sorted-after xs gone more = sorted-set_of o (without R xs gone ++ more)

  pub filter-unchanged : (p : A → Bool) (xs gone more : List A) → IsStrictlySortedBy R xs → list_any p more ≡ false → list_any p gone ≡ false → filter p (union R (without R xs gone) more) ≡ filter p xs
  filter-unchanged p xs gone more s none_more none_gone =
      same_set o exact _ _
      (IsStrictlySortedBy-filter R p _ (sorted-after xs gone more)) (IsStrictlySortedBy-filter R p xs s)
      (λ q. has-filtered p q xs gone more
      ∙ unchanged (has R xs q) (has R gone q) (has R more q) (p q) (λ e. lacks p q gone none_gone e) (λ e. lacks p q more none_more e)
      ∙ sym (has-filter o exact p q xs))

  pub filter-depends : (p : A → Bool) (xs ys gone more : List A) → filter p xs ≡ filter p ys → filter p (union R (without R xs gone) more) ≡ filter p (union R (without R ys gone) more)
  filter-depends p xs ys gone more h =
      same_set o exact _ _
      (IsStrictlySortedBy-filter R p _ (sorted-after xs gone more)) (IsStrictlySortedBy-filter R p _ (sorted-after ys gone more))
      (λ q. has-filtered p q xs gone more
      ∙ depends (has R xs q) (has R ys q) (has R gone q) (has R more q) (p q)
      (sym (has-filter o exact p q xs) ∙ ap (λ zs. has R zs q) h ∙ has-filter o exact p q ys)
      ∙ sym (has-filtered p q ys gone more))

  -- with nothing put in or taken out, a set is as it was
  pub after-nothing : (xs gone more : List A) → IsStrictlySortedBy R xs → list_any (λ x. true) more ≡ false → list_any (λ x. true) gone ≡ false → union R (without R xs gone) more ≡ xs
  after-nothing xs gone more s none_more none_gone =
      same_set o exact _ _ (sorted-after xs gone more) s
      (λ q. has-after o exact q xs gone more
      ∙ sym (and-true _)
      ∙ unchanged (has R xs q) (has R gone q) (has R more q) true (λ e. lacks (λ x. true) q gone none_gone refl) (λ e. lacks (λ x. true) q more none_more refl)
      ∙ and-true _)

-- ---- the laws

of_quads : {K : Type 0} → Told K → List (Quad K) → List (Quad K)
of_quads (Quads qs) default = qs
of_quads _ default = default

of_names : {K : Type 0} → Told K → List K → List K
of_names (Names ns) default = ns
of_names _ default = default

of_is : {K : Type 0} → Told K → Bool
of_is (Is b) = b
of_is _ = false

kept_name : (x a b : Bool) → (b || a) ≡ false → ((x && not a) || b) ≡ x
kept_name true true b h = absurd (false≢true (sym h ∙ or-true b))
kept_name true false true h = refl
kept_name true false false h = refl
kept_name false a true h = h
kept_name false a false h = refl

module _ {K : Type 0} {R : K → K → Ordering} (o : IsTotalOrder R) (exact : (x y : K) → R x y ≡ Equal → x ≡ y) where
  pub uncovered_keeps : UncoveredKeeps R
  uncovered_keeps c d (Scan p) rising h =
      let none = or_parts (list_any (matches R p) c.present) (list_any (matches R p) c.absent) h in
      ap Quads (filter-unchanged (quad_total o) (quad_exact R exact) (matches R p) d.quads c.absent c.present rising.quads none.0 none.1)
  uncovered_keeps c d (GraphIs g) rising h =
      ap Is (has-after o exact g d.names c.gone c.there ∙ kept_name (has R d.names g) (has R c.gone g) (has R c.there g) h)
  uncovered_keeps c d Graphs rising h =
      let none = or_parts (list_any (λ g. true) c.there) (list_any (λ g. true) c.gone) h in
      ap Names (after-nothing o exact d.names c.gone c.there rising.names none.0 none.1)

  pub same_after : SameAfter R
  unfolding of_quads of_is of_names
  same_after c d e (Scan p) h =
      ap Quads (filter-depends (quad_total o) (quad_exact R exact) (matches R p) d.quads e.quads c.absent c.present (ap (λ t. of_quads t []) h))
  same_after c d e (GraphIs g) h =
      ap Is (has-after o exact g d.names c.gone c.there ∙ ap (λ t. (of_is t && not (has R c.gone g)) || has R c.there g) h ∙ sym (has-after o exact g e.names c.gone c.there))
  same_after c d e Graphs h = ap (λ t. Names (union R (without R (of_names t []) c.gone) c.there)) h

  pub rises_after : RisesAfter R
  rises_after c d =
      record {
        quads = sorted-set_of (quad_total o) (without (quad_order R) d.quads c.absent ++ c.present);
        names = sorted-set_of o (without R d.names c.gone ++ c.there);
      }

  pub says_rising : SaysRising R
  says_rising d (Scan p) rising = IsStrictlySortedBy-filter (quad_order R) (matches R p) d.quads rising.quads
  says_rising d (GraphIs g) rising = tt
  says_rising d Graphs rising = rising.names
