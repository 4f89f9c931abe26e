-- Lists of quads that are sets.
use Rattle.std.specs.Prelude.{Bool, filter}
use Rattle.std.proofs.Common.{◌≡◌, List, [], sym, subst}
use Rattle.std.proofs.lemmas.List.Kept.{IsStrictlySortedBy-filter}
use Rattle.std.specs.List.Sorted.{IsStrictlySortedBy}
use Rattle.sets.specs.Sets.{set_of}
use Rattle.sets.proofs.SetLaws.{sorted-empty, sorted-set_of}
use Rattle.datasets.specs.declared.id.Id.{Id}
use Rattle.datasets.specs.declared.quad.Quad.{Quad}
use Rattle.datasets.specs.Id.{id_order, id_total, quad_total}
use Rattle.datasets.specs.Dataset.{quad_order}

pub no_quads : (xs : List (Quad Id)) → xs ≡ [] → IsStrictlySortedBy (quad_order id_order) xs
no_quads xs e = subst (λ ys. IsStrictlySortedBy (quad_order id_order) ys) (sym e) (sorted-empty (quad_order id_order))

pub set_of_quads : (xs ys : List (Quad Id)) → xs ≡ set_of (quad_order id_order) ys → IsStrictlySortedBy (quad_order id_order) xs
set_of_quads xs ys e = subst (λ zs. IsStrictlySortedBy (quad_order id_order) zs) (sym e) (sorted-set_of (quad_total id_total) ys)

pub filter_of_quads : (p : Quad Id → Bool) (xs ys : List (Quad Id)) → xs ≡ filter p ys → IsStrictlySortedBy (quad_order id_order) ys → IsStrictlySortedBy (quad_order id_order) xs
filter_of_quads p xs ys e s = subst (λ zs. IsStrictlySortedBy (quad_order id_order) zs) (sym e) (IsStrictlySortedBy-filter (quad_order id_order) p ys s)
