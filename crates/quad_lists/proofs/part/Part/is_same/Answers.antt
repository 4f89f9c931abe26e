use Rattle.std.proofs.Common.{◌≡◌, List, [], ◌∷◌, length, map, get_or, drop, refl, sym, ap, ◌∙◌, arith}
use Rattle.std.specs.Cmp.{tied_itself}
use Rattle.datasets.specs.Id.{id_order, id_total, quad_total}
use Rattle.datasets.specs.Dataset.{quad_order}
use Rattle.quad_lists.specs.declared.known.KnownQuad.{KnownQuad}
use Rattle.quad_lists.specs.Known.{quad_of}
use Rattle.quad_lists.specs.KnownOrder.{known_exact}
use Rattle.quad_lists.specs.Part.{quads_of_part}
use Rattle.quad_lists.proofs.part.Part.is_same.Goals as goal

alike : (a b : KnownQuad) → quad_of a ≡ quad_of b → a ≡ b
alike a b e = known_exact a b (ap (λ q. quad_order id_order (quad_of a) q) (sym e) ∙ tied_itself (quad_total id_total) (quad_of a))

narrowed : (xs ys : List KnownQuad) → map quad_of xs ≡ map quad_of ys → xs ≡ ys
narrowed [] [] e = refl
narrowed [] (y ∷ ys) e = absurd (omega (arith, ap length e))
narrowed (x ∷ xs) [] e = absurd (omega (arith, ap length e))
narrowed (x ∷ xs) (y ∷ ys) e =
    let first = alike x y (ap (λ zs. get_or zs 0 (quad_of x)) e) in
    let rest = narrowed xs ys (ap (drop 1) e) in
    λ i. first i ∷ rest i

pub returns-in-Narrow-Narrow : goal.returns-in-Narrow-Narrow
returns-in-Narrow-Narrow c =
    let known = c.in-Narrow-Narrow.known.now in
    let others = c.in-Narrow-Narrow.others.now in
    let left : quads_of_part c.args.self.now ≡ map quad_of known = ap quads_of_part c.in-Narrow-Narrow.is-0 in
    let right : quads_of_part c.args.other.now ≡ map quad_of others = ap quads_of_part c.in-Narrow-Narrow.is-1 in
    (λ h. left ∙ ap (map quad_of) (c.same_items.ensures.0 h) ∙ sym right, λ e. c.same_items.ensures.1 (narrowed known others (sym left ∙ e ∙ right)))
