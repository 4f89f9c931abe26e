-- How many entries a search looks at, and what one more entry adds to what is found.
use Rattle.std.specs.Prelude.{slice_range}
use Rattle.std.proofs.Common.{◌≡◌, ◌<◌, ◌≤◌, ◌+◌, ◌-◌, ◌*◌, ◌^◌, ℕ, zero, suc, List, ◌∙◌, ap, sym, map, length, take, drop, arith}
use Rattle.std.proofs.lemmas.List.{take-map, drop-map, length-drop, length-take}
use Rattle.std.proofs.Math.Nat.{pow-succ'}

-- half of what can be told apart by so many digits can be by one less
pub halved : (r w v : ℕ) → w < 2 ^ r → 1 ≤ w → 2 * v ≤ w → (1 ≤ r) × (v < 2 ^ (r - 1))
halved zero w v lt one twice = absurd (omega arith)
halved (suc r) w v lt one twice =
    let e : 2 ^ suc r ≡ 2 * 2 ^ r = pow-succ' 2 r in
    let f : suc r - 1 ≡ r = omega arith in
    (omega arith, let h : v < 2 ^ r = omega arith in rw f h)

-- one more look, after which at most half is left
pub looked : (old now digits w v : ℕ) → (now ≤ old + digits) × (w < 2 ^ (old + digits - now)) → 1 ≤ w → 2 * v ≤ w → (now + 1 ≤ old + digits) × (v < 2 ^ (old + digits - (now + 1)))
looked old now digits w v h one twice =
    let step = halved (old + digits - now) w v h.1 one twice in
    let more : 1 ≤ old + digits - now = step.0 in
    let f : old + digits - (now + 1) ≡ old + digits - now - 1 = omega arith in
    (omega arith, rw f step.1)

pub length_part : {A : Type 0} (xs : List A) (first past : ℕ) → first ≤ past → past ≤ length xs → length (slice_range xs first past) ≡ past - first
length_part xs first past le within =
    let rest : length (drop first xs) ≡ length xs - first = length-drop first xs in
    omega (arith, length-take (past - first) (drop first xs))

pub map_part : {A B : Type 0} (f : A → B) (xs : List A) (first past : ℕ) → map f (slice_range xs first past) ≡ slice_range (map f xs) first past
map_part f xs first past = sym (ap (take (past - first)) (drop-map f first xs) ∙ take-map f (past - first) (drop first xs))
