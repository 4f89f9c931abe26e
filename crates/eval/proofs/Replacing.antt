-- A change that goes on is one change after another.
use Rattle.std.specs.Prelude.{not, ◌&&◌, ◌||◌}
use Rattle.std.proofs.Common.{◌≡◌, List, ◌++◌, sym, ap, ◌∙◌}
use Rattle.std.proofs.Math.Bool.{or_assoc}
use Rattle.sets.specs.Sets.{has, set_of, union, without}
use Rattle.sets.proofs.SetLaws.{same_set, sorted-set_of, has-set_of, has-union, has-without, set_twice}
use Rattle.datasets.specs.declared.id.Id.{Id}
use Rattle.datasets.specs.declared.quad.Quad.{Quad}
use Rattle.datasets.specs.Dataset.{names_of}
use Rattle.datasets.specs.Id.{id_order, id_total, id_exact, quad_total, quad_exact}
use Rattle.reads.specs.Reads.{View, Delta, applied}
use Rattle.eval.specs.Changes.{replaced_change, with_replaced}

names_replaced : (dn gone there names : List Id) →
    union id_order (without id_order dn (set_of id_order gone)) (union id_order there names) ≡ union id_order (union id_order (without id_order dn gone) there) names
names_replaced dn gone there names =
    let v : List Id = without id_order dn (set_of id_order gone) in
    let w : List Id = without id_order dn gone in
    same_set id_total id_exact (union id_order v (union id_order there names)) (union id_order (union id_order w there) names)
    (sorted-set_of id_total (v ++ union id_order there names)) (sorted-set_of id_total (union id_order w there ++ names))
    (λ q.
    has-union id_total q v (union id_order there names)
    ∙ (λ k. has-without id_total id_exact q dn (set_of id_order gone) k || has-union id_total q there names k)
    ∙ ap (λ b. (has id_order dn q && not b) || (has id_order there q || has id_order names q)) (has-set_of id_total q gone)
    ∙ sym (or_assoc (has id_order dn q && not (has id_order gone q)) (has id_order there q) (has id_order names q))
    ∙ sym (has-union id_total q (union id_order w there) names
    ∙ ap (λ b. b || has id_order names q) (has-union id_total q w there ∙ ap (λ b. b || has id_order there q) (has-without id_total id_exact q dn gone))))

pub replaced_is : (c : Delta) (d : View) (deleted inserted : List (Quad Id)) → applied (replaced_change c deleted inserted) d ≡ with_replaced (applied c d) deleted inserted
unfolding applied
replaced_is c d deleted inserted =
    λ k. record { quads = set_twice (quad_total id_total) (quad_exact id_order id_exact) d.quads c.absent c.present deleted inserted k; names = names_replaced d.names c.gone c.there (names_of inserted) k }
