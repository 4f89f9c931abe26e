-- A read asks only for what matches of a change.
use Rattle.std.specs.Prelude.{Bool, not, filter, ◌||◌, ◌&&◌, if◌then◌else◌}
use Rattle.std.proofs.Common.{◌≡◌, true, false, List, [], ◌∷◌, ◌++◌, refl, sym, ap, ◌∙◌}
use Rattle.std.proofs.lemmas.List.Kept.{IsStrictlySortedBy-filter}
use Rattle.std.specs.declared.cmp.Ordering.{Ordering}
use Rattle.std.specs.declared.cmp.Ordering.TheVariants.{Equal}
use Rattle.std.specs.Cmp.{IsTotalOrder, tied_itself}
use Rattle.std.specs.Ordering.{is_eq}
use Rattle.std.proofs.Math.Bool.{and-false}
use Rattle.sets.specs.Sets.{has, union, without}
use Rattle.sets.proofs.SetLaws.{same_set, sorted-set_of, has-filter, has-after}
use Rattle.datasets.specs.declared.id.Id.{Id}
use Rattle.datasets.specs.declared.read.QuadPattern.{QuadPattern}
use Rattle.datasets.specs.declared.read.Read.TheVariants.{Scan, GraphIs, Graphs}
use Rattle.datasets.specs.Dataset.{Quads, Is, matches}
use Rattle.datasets.specs.Id.{id_order, id_total, id_exact, quad_exact, quad_total}
use Rattle.reads.specs.Reads.{View, Delta, says, applied}

-- a member after the change depends, where the test holds, on the matching part of the change
part : (x a b p : Bool) → (((x && not (a && p)) || (b && p)) && p) ≡ (((x && not a) || b) && p)
part true true true true = refl
part true true false true = refl
part true false true true = refl
part true false false true = refl
part false a true true = refl
part false a false true = refl
part x a b false = and-false ((x && not (a && false)) || (b && false)) ∙ sym (and-false ((x && not a) || b))

module _ {A : Type 0} {R : A → A → Ordering} (o : IsTotalOrder R) (exact : (x y : A) → R x y ≡ Equal → x ≡ y) where
  pub filter-part : (p : A → Bool) (xs gone more : List A) → filter p (union R (without R xs (filter p gone)) (filter p more)) ≡ filter p (union R (without R xs gone) more)
  filter-part p xs gone more =
      same_set o exact _ _
      (IsStrictlySortedBy-filter R p _ (sorted-set_of o (without R xs (filter p gone) ++ filter p more))) (IsStrictlySortedBy-filter R p _ (sorted-set_of o (without R xs gone ++ more)))
      (λ q. has-filter o exact p q (union R (without R xs (filter p gone)) (filter p more))
      ∙ ap (λ b. b && p q) (has-after o exact q xs (filter p gone) (filter p more))
      ∙ (λ t. ((has R xs q && not (has-filter o exact p q gone t)) || has-filter o exact p q more t) && p q)
      ∙ part (has R xs q) (has R gone q) (has R more q) (p q)
      ∙ sym (has-filter o exact p q (union R (without R xs gone) more) ∙ ap (λ b. b && p q) (has-after o exact q xs gone more)))

pub after-matching : (p : QuadPattern Id) (c : Delta) (d : View) → says (Scan p) (applied (record { present = filter (matches id_order p) c.present; absent = filter (matches id_order p) c.absent; there = []; gone = [] }) d) ≡ says (Scan p) (applied c d)
unfolding says applied
after-matching p c d = ap Quads (filter-part (quad_total id_total) (quad_exact id_order id_exact) (matches id_order p) d.quads c.absent c.present)

-- of a set of names, the one name
abbrev pub named : Id → List Id → List Id
named g names = if has id_order names g then g ∷ [] else []

has-named : (g : Id) (names : List Id) → has id_order (named g names) g ≡ has id_order names g
has-named g names = at (has id_order names g)
  where
    at : (b : Bool) → has id_order (if b then g ∷ [] else []) g ≡ b
    at true = ap (λ r. is_eq r || false) (tied_itself id_total g)
    at false = refl

pub after-name : (g : Id) (c : Delta) (d : View) → says (GraphIs g) (applied (record { present = []; absent = []; there = named g c.there; gone = named g c.gone }) d) ≡ says (GraphIs g) (applied c d)
unfolding says applied
after-name g c d =
    ap Is
    (has-after id_total id_exact g d.names (named g c.gone) (named g c.there)
    ∙ (λ t. (has id_order d.names g && not (has-named g c.gone t)) || has-named g c.there t)
    ∙ sym (has-after id_total id_exact g d.names c.gone c.there))

pub after-names : (c : Delta) (d : View) → says Graphs (applied (record { present = []; absent = []; there = c.there; gone = c.gone }) d) ≡ says Graphs (applied c d)
unfolding says applied
after-names c d = refl
