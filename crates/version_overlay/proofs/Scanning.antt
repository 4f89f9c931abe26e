-- What a scan says after a change, from what it said before.
use Rattle.std.specs.Prelude.{Bool, not, filter, ◌||◌, ◌&&◌}
use Rattle.std.proofs.Common.{◌≡◌, true, false, List, [], ◌∷◌, ◌++◌, Option, Some, None, refl, sym, ap, ◌∙◌}
use Rattle.std.proofs.lemmas.Bool.{false≢true, or_parts, and_parts, or_cases}
use Rattle.std.proofs.lemmas.List.Kept.{IsStrictlySortedBy-filter}
use Rattle.std.specs.declared.cmp.Ordering.{Ordering}
use Rattle.std.specs.declared.cmp.Ordering.TheVariants.{Equal}
use Rattle.std.specs.Cmp.{IsTotalOrder}
use Rattle.std.specs.List.{list_any}
use Rattle.std.specs.List.Sorted.{IsStrictlySortedBy}
use Rattle.std.specs.Ordering.{eq_by_cmp}
use Rattle.std.proofs.Math.Bool.{and-false}
use Rattle.std.proofs.Math.Logic.{⊎_elim}
use Rattle.sets.specs.Sets.{has, union, without}
use Rattle.sets.proofs.SetLaws.{same_set, sorted-set_of, has-filter, exact_by, has-after}
use Rattle.change_laws.specs.Laws.{IsRising}
use Rattle.change_laws.proofs.ChangeLaws.{filter-depends}
use Rattle.datasets.specs.declared.id.Id.{Id}
use Rattle.datasets.specs.declared.quad.Quad.{Quad}
use Rattle.datasets.specs.declared.read.QuadPattern.{QuadPattern}
use Rattle.datasets.specs.declared.read.Read.TheVariants.{Scan}
use Rattle.datasets.specs.Dataset.{Quads, Is, Names, quad_order, matches}
use Rattle.datasets.specs.Id.{id_order, id_total, id_exact, quad_exact, quad_total}
use Rattle.reads.specs.Reads.{View, Delta, Read, Answer, says, applied, told_quads}

-- a member stays where nothing that is asked for comes, and it doesn't go
stays : (x a m p : Bool) → (m && p) ≡ false → ((x && p) ≡ true → a ≡ false) → (((x && not a) || m) && p) ≡ (x && p)
stays x a m false none apart = and-false ((x && not a) || m) ∙ sym (and-false x)
stays x a true true none apart = absurd (false≢true (sym none))
stays true true false true none apart = absurd (false≢true (sym (apart refl)))
stays true false false true none apart = refl
stays false a false true none apart = refl

-- of what comes only what is asked for counts
comes : (b m p : Bool) → ((b || (m && p)) && p) ≡ ((b || m) && p)
comes b m false = and-false (b || (m && false)) ∙ sym (and-false (b || m))
comes b true true = refl
comes b false true = refl

module _ {A : Type 0} {R : A → A → Ordering} (o : IsTotalOrder R) (exact : (x y : A) → R x y ≡ Equal → x ≡ y) where
  -- a test that holds of none of a list holds of none of its members
  pub none_of : (f : A → Bool) (xs : List A) → list_any f xs ≡ false → (q : A) → has R xs q ≡ true → f q ≡ false
  none_of f [] e q h = absurd (false≢true h)
  none_of f (x ∷ xs) e q h =
      let parts = or_parts (f x) (list_any f xs) e in
      ⊎_elim (λ same. ap f (exact_by o exact q x same) ∙ parts.0) (none_of f xs parts.1 q) (or_cases (eq_by_cmp R q x) (has R xs q) h)

  -- where no member of the second is one of the first, no member of the first is one of the second
  pub none_in_common : (xs ys : List A) → list_any (λ q. has R xs q) ys ≡ false → (q : A) → has R xs q ≡ true → has R ys q ≡ false
  none_in_common xs ys e q h = at (has R ys q) refl
    where
      at : (b : Bool) → has R ys q ≡ b → has R ys q ≡ false
      at true k = absurd (false≢true (sym (none_of (λ q. has R xs q) ys e q k) ∙ h))
      at false k = k

  pub has-kept : (p : A → Bool) (xs : List A) (q : A) → has R (filter p xs) q ≡ true → has R xs q ≡ true
  has-kept p xs q e = (and_parts (has R xs q) (p q) (sym (has-filter o exact p q xs) ∙ e)).0

  pub filter-stays : (p : A → Bool) (xs gone more : List A) → IsStrictlySortedBy R xs → filter p more ≡ [] → ((q : A) → has R (filter p xs) q ≡ true → has R gone q ≡ false)
      → filter p (union R (without R xs gone) more) ≡ filter p xs
  filter-stays p xs gone more s none apart =
      same_set o exact _ _ (IsStrictlySortedBy-filter R p _ (sorted-set_of o (without R xs gone ++ more))) (IsStrictlySortedBy-filter R p xs s)
      (λ q. has-filter o exact p q (union R (without R xs gone) more)
      ∙ ap (λ b. b && p q) (has-after o exact q xs gone more)
      ∙ stays (has R xs q) (has R gone q) (has R more q) (p q) (sym (has-filter o exact p q more) ∙ ap (λ ys. has R ys q) none) (λ e. apart q (has-filter o exact p q xs ∙ e))
      ∙ sym (has-filter o exact p q xs))

  pub filter-comes : (p : A → Bool) (xs gone more : List A) → filter p (union R (without R xs gone) (filter p more)) ≡ filter p (union R (without R xs gone) more)
  filter-comes p xs gone more =
      same_set o exact _ _
      (IsStrictlySortedBy-filter R p _ (sorted-set_of o (without R xs gone ++ filter p more))) (IsStrictlySortedBy-filter R p _ (sorted-set_of o (without R xs gone ++ more)))
      (λ q. has-filter o exact p q (union R (without R xs gone) (filter p more))
      ∙ ap (λ b. b && p q) (has-after o exact q xs gone (filter p more))
      ∙ (λ t. ((has R xs q && not (has R gone q)) || has-filter o exact p q more t) && p q)
      ∙ comes (has R xs q && not (has R gone q)) (has R more q) (p q)
      ∙ sym (has-filter o exact p q (union R (without R xs gone) more) ∙ ap (λ b. b && p q) (has-after o exact q xs gone more)))

abbrev pub quads_told : Answer → List (Quad Id)
quads_told (Quads quads) = quads
quads_told (Is so) = []
quads_told (Names names) = []

kept : (p : QuadPattern Id) (c : Delta) (part d : View) → IsRising id_order d → says (Scan p) part ≡ says (Scan p) d → filter (matches id_order p) c.present ≡ []
    → ((q : Quad Id) → has (quad_order id_order) (filter (matches id_order p) part.quads) q ≡ true → has (quad_order id_order) c.absent q ≡ false) → says (Scan p) part ≡ says (Scan p) (applied c d)
unfolding says applied
kept p c part d rising alike none apart =
    let same = ap quads_told alike in
    alike ∙ sym (ap Quads (filter-stays (quad_total id_total) (quad_exact id_order id_exact) (matches id_order p) d.quads c.absent c.present rising.quads none
    (λ q e. apart q (ap (λ xs. has (quad_order id_order) xs q) same ∙ e))))

changed : (p : QuadPattern Id) (c : Delta) (part d next : View) → says (Scan p) part ≡ says (Scan p) d
    → next.quads ≡ union (quad_order id_order) (without (quad_order id_order) part.quads c.absent) (filter (matches id_order p) c.present) → says (Scan p) next ≡ says (Scan p) (applied c d)
unfolding says applied
changed p c part d next alike is =
    let total = quad_total id_total in
    let exact = quad_exact id_order id_exact in
    ap Quads (ap (filter (matches id_order p)) is ∙ filter-comes total exact (matches id_order p) part.quads c.absent c.present
    ∙ filter-depends total exact (matches id_order p) part.quads d.quads c.absent c.present (ap quads_told alike))

-- the same of a read that is a scan

module _ (r : Read) (p : QuadPattern Id) (is : r ≡ Scan p) (c : Delta) (part d : View) where
  before : says r part ≡ says r d → says (Scan p) part ≡ says (Scan p) d
  before alike = sym (ap (λ z. says z part) is) ∙ alike ∙ ap (λ z. says z d) is

  pub scan_kept : IsRising id_order d → says r part ≡ says r d → filter (matches id_order p) c.present ≡ []
      → ((q : Quad Id) → has (quad_order id_order) (filter (matches id_order p) part.quads) q ≡ true → has (quad_order id_order) c.absent q ≡ false) → says r part ≡ says r (applied c d)
  scan_kept rising alike none apart = ap (λ z. says z part) is ∙ kept p c part d rising (before alike) none apart ∙ sym (ap (λ z. says z (applied c d)) is)

  pub scan_changed : says r part ≡ says r d → (next : View) → next.quads ≡ union (quad_order id_order) (without (quad_order id_order) part.quads c.absent) (filter (matches id_order p) c.present)
      → says r next ≡ says r (applied c d)
  scan_changed alike next e = ap (λ z. says z next) is ∙ changed p c part d next (before alike) e ∙ sym (ap (λ z. says z (applied c d)) is)

-- the quads of an answer to a scan
pub told_some : (p : QuadPattern Id) (d : View) (answer : Answer) (quads : List (Quad Id)) → answer ≡ says (Scan p) d → Some quads ≡ told_quads answer → quads ≡ filter (matches id_order p) d.quads
unfolding says
told_some p d answer quads is e = ap some_or (e ∙ ap told_quads is)
  where
    some_or : Option (List (Quad Id)) → List (Quad Id)
    some_or None = []
    some_or (Some xs) = xs
