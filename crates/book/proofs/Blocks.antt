-- Lists of one length, one behind another, and a last that is no longer.
use Rattle.std.proofs.Common.{◌≡◌, ℕ, zero, suc, ◌+◌, ◌*◌, ◌/◌, ◌%◌, ◌<◌, ◌≤◌, List, [], ◌∷◌, ◌++◌, length, Some, slice_get, get_or, refl, sym, ap, ◌∙◌, arith, append_assoc, length-append}
use Rattle.std.specs.Prelude.{All}
use Rattle.std.specs.List.{flat_map}
use Rattle.std.proofs.lemmas.List.{get_or_append_left, get_or-append-add}
use Rattle.std.proofs.lemmas.List.Elements.{All-head, All-tail}
use Rattle.std.proofs.lemmas.Grind.{flat_map-append}
use Rattle.std.proofs.lemmas.Nat.{div-add-mod', mod_below}
use Rattle.std.proofs.lemmas.Option.{slice_get_read}

module _ {X A : Type 0} (f : X → List A) (n : ℕ) where
  pub length_blocks : (xs : List X) → All (λ x. length (f x) ≡ n) xs → length (flat_map f xs) ≡ length xs * n
  length_blocks [] all = omega arith
  length_blocks (x ∷ xs) all =
      let first = All-head (λ x. length (f x) ≡ n) x xs all in
      let rest = length_blocks xs (All-tail (λ x. length (f x) ≡ n) x xs all) in
      omega (arith, length-append (f x) (flat_map f xs), first, rest)

  pub length_in_blocks : (xs : List X) (ys : List A) → All (λ x. length (f x) ≡ n) xs → length (flat_map f xs ++ ys) ≡ length xs * n + length ys
  length_in_blocks xs ys all = omega (arith, length-append (flat_map f xs) ys, length_blocks xs all)

  -- after one more block
  pub length_after : (xs : List X) (x : X) (zs : List X) (ys : List A) → All (λ x. length (f x) ≡ n) xs → length (f x) ≤ n → zs ≡ xs ++ x ∷ [] → ys ≡ [] → length (flat_map f zs ++ ys) ≤ (length xs + 1) * n
  length_after xs x zs ys all short more none =
      let first = length-append (flat_map f zs) ys in
      let last = ap length none in
      let all_but = ap (λ zs. length (flat_map f zs)) more in
      let split = ap length (flat_map-append f xs (x ∷ [])) in
      let both = length-append (flat_map f xs) (f x ++ []) in
      let one = length-append (f x) [] in
      omega (arith, length_blocks xs all, first, last, all_but, split, both, one, short)

  in_block : (xs : List X) (ys : List A) (q r : ℕ) (e : X) (d : A) → All (λ x. length (f x) ≡ n) xs → q < length xs → r < n → get_or (flat_map f xs ++ ys) (q * n + r) d ≡ get_or (f (get_or xs q e)) r d
  in_block [] ys q r e d all lt small = absurd (omega (arith, lt))
  in_block (x ∷ xs) ys zero r e d all lt small =
      let first = All-head (λ x. length (f x) ≡ n) x xs all in
      let i : zero * n + r ≡ r = omega arith in
      ap (λ l. get_or l (zero * n + r) d) (append_assoc (f x) (flat_map f xs) ys)
      ∙ ap (λ i. get_or (f x ++ (flat_map f xs ++ ys)) i d) i
      ∙ get_or_append_left (f x) (flat_map f xs ++ ys) d r (omega (arith, first, small))
  in_block (x ∷ xs) ys (suc q) r e d all lt small =
      let first = All-head (λ x. length (f x) ≡ n) x xs all in
      let i : suc q * n + r ≡ length (f x) + (q * n + r) = omega (arith, first) in
      ap (λ l. get_or l (suc q * n + r) d) (append_assoc (f x) (flat_map f xs) ys)
      ∙ ap (λ i. get_or (f x ++ (flat_map f xs ++ ys)) i d) i
      ∙ get_or-append-add (f x) (flat_map f xs ++ ys) (q * n + r) d
      ∙ in_block xs ys q r e d (All-tail (λ x. length (f x) ≡ n) x xs all) (omega (arith, lt)) small

  behind : (xs : List X) (ys : List A) (r : ℕ) (d : A) → All (λ x. length (f x) ≡ n) xs → get_or (flat_map f xs ++ ys) (length xs * n + r) d ≡ get_or ys r d
  behind xs ys r d all =
      ap (λ m. get_or (flat_map f xs ++ ys) (m + r) d) (sym (length_blocks xs all))
      ∙ get_or-append-add (flat_map f xs) ys r d

-- the entry at a place of blocks of 4,096
module _ {X A : Type 0} (f : X → List A) (xs : List X) (ys : List A) (i : ℕ) (all : All (λ x. length (f x) ≡ 4096) xs) (lt : i < length (flat_map f xs ++ ys)) where
  pub item_in_block : (x : X) (a : A) → i / 4096 < length xs → x ≡ get_or xs (i / 4096) x → a ≡ get_or (f x) (i % 4096) a → slice_get (flat_map f xs ++ ys) i ≡ Some a
  item_in_block x a within is at =
      slice_get_read (flat_map f xs ++ ys) (length (flat_map f xs ++ ys)) i a refl lt
      (at
      ∙ ap (λ x. get_or (f x) (i % 4096) a) is
      ∙ sym (in_block f 4096 xs ys (i / 4096) (i % 4096) x a all within (mod_below i 4096 (omega arith)))
      ∙ ap (λ i. get_or (flat_map f xs ++ ys) i a) (div-add-mod' i 4096))

  module _ (short : length ys ≤ 4096) (past : length xs ≤ i / 4096) where
    pub place_behind : (i / 4096 ≡ length xs) × (i % 4096 < length ys)
    place_behind =
        let long = length_in_blocks f 4096 xs ys all in
        (omega (arith, lt, long, short, past), omega (arith, lt, long, short, past))

    pub item_behind : (a : A) → a ≡ get_or ys (i % 4096) a → slice_get (flat_map f xs ++ ys) i ≡ Some a
    item_behind a at =
        slice_get_read (flat_map f xs ++ ys) (length (flat_map f xs ++ ys)) i a refl lt
        (at
        ∙ sym (behind f 4096 xs ys (i % 4096) a all)
        ∙ ap (λ m. get_or (flat_map f xs ++ ys) (m * 4096 + i % 4096) a) (sym place_behind.0)
        ∙ ap (λ i. get_or (flat_map f xs ++ ys) i a) (div-add-mod' i 4096))
