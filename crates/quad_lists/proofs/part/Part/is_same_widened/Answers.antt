use Rattle.std.specs.Prelude.{true, false}
use Rattle.std.proofs.Common.{rules, ◌≡◌, ◌<◌, ℕ, List, [], ◌∷◌, length, get_or, below_more, refl, sym, ap, ◌∙◌, arith}
use Rattle.std.proofs.lemmas.Bool.{false≢true}
use Rattle.std.proofs.lemmas.List.{get_or_read, ext_get_or}
use Rattle.std.specs.Cmp.{tied_itself}
use Rattle.std.specs.Ordering.{eq_by_cmp, is_eq}
use Rattle.sets.proofs.SetLaws.{exact_by}
use Rattle.datasets.specs.declared.id.Id.{Id}
use Rattle.datasets.specs.declared.quad.Quad.{Quad}
use Rattle.datasets.specs.Id.{id_order, id_total, id_exact, quad_total, quad_exact}
use Rattle.datasets.specs.Dataset.{quad_order}
use Rattle.quad_lists.specs.Part.{quads_of_part}
use Rattle.quad_lists.proofs.part.Part.is_same_widened.Goals as goal

module _ (xs ys : List (Quad Id)) (place : ℕ) (x y : Quad Id) (long : length xs ≡ length ys) (within : place < length xs) (left : x ≡ get_or xs place x) (right : y ≡ get_or ys place y) where
  same_here : eq_by_cmp (quad_order id_order) x y ≡ true → (d : Quad Id) → get_or xs place d ≡ get_or ys place d
  same_here e d =
      sym (get_or_read xs place x within left d)
      ∙ exact_by (quad_total id_total) (quad_exact id_order id_exact) x y e
      ∙ get_or_read ys place y (omega (arith, long, within)) right d

  differs : eq_by_cmp (quad_order id_order) x y ≡ false → xs ≡ ys → false ≡ true
  differs e same =
      let one : x ≡ y = get_or_read xs place x within left y ∙ ap (λ zs. get_or zs place y) same ∙ sym right in
      sym e ∙ ap (eq_by_cmp (quad_order id_order) x) (sym one) ∙ ap is_eq (tied_itself (quad_total id_total) x)

pub returns-then-not-is_eq : goal.returns-then-not-is_eq
returns-then-not-is_eq c =
    let within = c.loop-place-test.true in
    let other : eq_by_cmp (quad_order id_order) c.get.result c.get-in-loop-place.result ≡ false = search rules in (
      λ h. absurd (false≢true h),
      λ same. differs (quads_of_part c.args.self.now) (quads_of_part c.args.other.now) c.loop-place.place c.get.result c.get-in-loop-place.result c.loop-place.invariant.long (omega arith) c.get.ensures c.get-in-loop-place.ensures other same,
    )

pub loop-place-preserved : goal.loop-place-preserved
loop-place-preserved c =
    let within = c.loop-place-test.true in
    let same : eq_by_cmp (quad_order id_order) c.get.result c.get-in-loop-place.result ≡ true = search rules in
    record {
      long = c.loop-place.invariant.long;
      alike = λ d.
          below_more (λ k. get_or (quads_of_part c.args.self.now) k d ≡ get_or (quads_of_part c.args.other.now) k d) _ (c.loop-place.invariant.alike d)
          (same_here (quads_of_part c.args.self.now) (quads_of_part c.args.other.now) c.loop-place.place c.get.result c.get-in-loop-place.result c.loop-place.invariant.long (omega arith) c.get.ensures c.get-in-loop-place.ensures same d);
    }

same_lists : (xs ys : List (Quad Id)) → length xs ≡ length ys → ((d : Quad Id) (k : ℕ) → k < length xs → get_or xs k d ≡ get_or ys k d) → xs ≡ ys
same_lists [] [] long alike = refl
same_lists [] (y ∷ ys) long alike = absurd (omega (arith, long))
same_lists (x ∷ xs) ys long alike = ext_get_or x (x ∷ xs) ys long (alike x)

pub returns : goal.returns
returns c = (
  λ h. same_lists (quads_of_part c.args.self.now) (quads_of_part c.args.other.now) c.loop-place.invariant.long (λ d k lt. c.loop-place.invariant.alike d k (omega arith)),
  λ h. refl,
)
