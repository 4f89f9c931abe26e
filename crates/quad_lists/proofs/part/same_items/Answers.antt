use Rattle.std.proofs.Common.{◌≡◌, ◌<◌, ℕ, List, [], ◌∷◌, length, get_or, refl, arith}
use Rattle.std.proofs.lemmas.List.{ext_get_or}
use Rattle.quad_lists.proofs.part.same_items.Goals as goal

same_lists : {A : Type 0} (xs ys : List A) → length xs ≡ length ys → ((d : A) (k : ℕ) → k < length xs → get_or xs k d ≡ get_or ys k d) → xs ≡ ys
same_lists [] [] long alike = refl
same_lists [] (y ∷ ys) long alike = absurd (omega (arith, long))
same_lists (x ∷ xs) ys long alike = ext_get_or x (x ∷ xs) ys long (alike x)

pub returns : goal.returns
returns g c = (λ h. same_lists c.args.items.now c.args.others.now c.loop-place.invariant.long (λ d k lt. c.loop-place.invariant.alike d k (omega arith)), λ h. refl)
