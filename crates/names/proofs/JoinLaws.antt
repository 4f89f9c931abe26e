-- Whether two texts, one after the other, are a third.
use Rattle.std.specs.Prelude.{ℕ, ◌&&◌, nat_eq, bytes_eq}
use Rattle.std.proofs.Common.{◌≡◌, ◌≤◌, ◌<◌, false, List, [], ◌∷◌, ◌++◌, length, take, drop, refl, ap, ◌∙◌, arith, sym}
use Rattle.std.proofs.Math.Bool.{and-false, and_assoc}

pub joined_is : (front back text : List ℕ) → length front ≤ length text
    → bytes_eq (front ++ back) text ≡ (bytes_eq front (take (length front) text) && bytes_eq back (drop (length front) text))
joined_is [] back text h = refl
joined_is (x ∷ xs) back [] h = absurd (omega (arith, h))
joined_is (x ∷ xs) back (t ∷ ts) h =
    ap (λ b. nat_eq x t && b) (joined_is xs back ts (omega (arith, h)))
    ∙ sym (and_assoc (nat_eq x t) (bytes_eq xs (take (length xs) ts)) (bytes_eq back (drop (length xs) ts)))

pub too_long : (front back text : List ℕ) → length text < length front → bytes_eq (front ++ back) text ≡ false
too_long [] back text h = absurd (omega (arith, h))
too_long (x ∷ xs) back [] h = refl
too_long (x ∷ xs) back (t ∷ ts) h = ap (λ b. nat_eq x t && b) (too_long xs back ts (omega (arith, h))) ∙ and-false (nat_eq x t)
