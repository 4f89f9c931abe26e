use Rattle.std.proofs.Common.{◌≡◌, true, List, [], ◌∷◌, length, get_or, sym, ap, ◌∙◌, arith}
use Rattle.std.specs.Ordering.{eq_by_cmp, is_eq}
use Rattle.sets.proofs.SetLaws.{exact_by}
use Rattle.datasets.specs.declared.id.Id.{Id}
use Rattle.datasets.specs.declared.quad.Quad.{Quad}
use Rattle.datasets.specs.Id.{id_order, id_total, id_exact, quad_total, quad_exact}
use Rattle.datasets.specs.Dataset.{quad_order}
use Rattle.reads.proofs.presence.is_alone.Goals as goal

alone_at : (xs : List (Quad Id)) (x q : Quad Id) → length xs ≡ 1 → x ≡ get_or xs 0 x → x ≡ q → xs ≡ q ∷ []
alone_at [] x q long at is = absurd (omega (arith, long))
alone_at (y ∷ []) x q long at is = ap (λ z. z ∷ []) (sym at ∙ is)
alone_at (y ∷ z ∷ zs) x q long at is = absurd (omega (arith, long))

pub returns : goal.returns
returns c h =
    let same : eq_by_cmp (quad_order id_order) c.get.result c.args.quad.now ≡ true = sym (c.is_eq.ensures ∙ ap is_eq c.cmp.ensures) ∙ h in
    alone_at c.args.quads.now c.get.result c.args.quad.now (omega arith) c.get.ensures (exact_by (quad_total id_total) (quad_exact id_order id_exact) c.get.result c.args.quad.now same)
