-- What is seen through changes is what the changed dataset says.
use Rattle.std.specs.Prelude.{Bool, true, false, not, ◌&&◌, ◌||◌, filter}
use Rattle.std.proofs.Common.{◌≡◌, List, ◌++◌, refl, sym, ap, ◌∙◌}
use Rattle.std.proofs.lemmas.List.Kept.{IsStrictlySortedBy-filter}
use Rattle.sets.specs.Sets.{has, union, without}
use Rattle.sets.proofs.SetLaws.{same_set, sorted-set_of, has-union, has-filter, has-without}
use Rattle.datasets.specs.declared.id.Id.{Id}
use Rattle.datasets.specs.declared.quad.Quad.{Quad}
use Rattle.datasets.specs.declared.read.QuadPattern.{QuadPattern}
use Rattle.datasets.specs.Dataset.{matches, quad_order}
use Rattle.datasets.specs.Id.{id_order, id_total, id_exact, quad_total, quad_exact}
use Rattle.reads.specs.Reads.{View, Delta, applied}
use Rattle.eval.specs.Changes.{seen_through}

scanned : (d a p m : Bool) → (((d && m) && not a) || (p && m)) ≡ (((d && not a) || p) && m)
scanned true true true true = refl
scanned true true true false = refl
scanned true true false true = refl
scanned true true false false = refl
scanned true false true true = refl
scanned true false true false = refl
scanned true false false true = refl
scanned true false false false = refl
scanned false a true true = refl
scanned false a true false = refl
scanned false a false true = refl
scanned false a false false = refl

pub scan_seen : (p : QuadPattern Id) (c : Delta) (d : View) (told : List (Quad Id)) → told ≡ filter (matches id_order p) d.quads
    → seen_through c p told ≡ filter (matches id_order p) (applied c d).quads
unfolding applied
scan_seen p c d told e =
    let R = quad_order id_order in
    let total = quad_total id_total in
    let exact = quad_exact id_order id_exact in
    let m : Quad Id → Bool = matches id_order p in
    let met : List (Quad Id) = filter m d.quads in
    let twice : List (Quad Id) = filter m met in
    let kept : List (Quad Id) = without R twice c.absent in
    let rest : List (Quad Id) = without R d.quads c.absent in
    ap (λ z. union R (without R (filter m z) c.absent) (filter m c.present)) e
    ∙ same_set total exact (union R kept (filter m c.present)) (filter m (union R rest c.present))
    (sorted-set_of total (kept ++ filter m c.present))
    (IsStrictlySortedBy-filter R m (union R rest c.present) (sorted-set_of total (rest ++ c.present)))
    (λ q.
    has-union total q kept (filter m c.present)
    ∙ (λ i. has-without total exact q twice c.absent i || has-filter total exact m q c.present i)
    ∙ ap (λ b. (b && not (has R c.absent q)) || (has R c.present q && m q)) (has-filter total exact m q met ∙ ap (λ b. b && m q) (has-filter total exact m q d.quads) ∙ and_twice (has R d.quads q) (m q))
    ∙ scanned (has R d.quads q) (has R c.absent q) (has R c.present q) (m q)
    ∙ sym (has-filter total exact m q (union R rest c.present)
    ∙ ap (λ b. b && m q) (has-union total q rest c.present ∙ ap (λ b. b || has R c.present q) (has-without total exact q d.quads c.absent))))
  where
    and_twice : (a b : Bool) → ((a && b) && b) ≡ (a && b)
    and_twice true true = refl
    and_twice true false = refl
    and_twice false b = refl

pub name_seen : (g : Id) (c : Delta) (d : View) → has id_order (applied c d).names g ≡ ((has id_order d.names g && not (has id_order c.gone g)) || has id_order c.there g)
unfolding applied
name_seen g c d =
    has-union id_total g (without id_order d.names c.gone) c.there
    ∙ ap (λ b. b || has id_order c.there g) (has-without id_total id_exact g d.names c.gone)
