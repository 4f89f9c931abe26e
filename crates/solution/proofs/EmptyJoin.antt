-- A join with the empty mapping alone.
use Rattle.std.specs.Prelude.{ℕ, ◌<◌, ◌≤◌, cond, length, nat_le, filter_map}
use Rattle.std.specs.List.{list_all, flat_map, cons_option}
use Rattle.std.proofs.lemmas.Bool.{false≢true, leb-true, and_parts}
use Rattle.std.proofs.Common.{◌≡◌, true, zero, suc, List, [], ◌∷◌, ◌++◌, Option, Some, None, refl, sym, ap, ◌∙◌, append-nil, arith, get_or}
use Rattle.sets.specs.Sets.{set_of}
use Rattle.datasets.specs.declared.id.Id.{Id}
use Rattle.datasets.specs.Id.{id_order}
use Rattle.meaning.specs.Mapping.{Mapping, mapping_cmp, compatible, merge, joined}
use Rattle.meaning.specs.Operators.{join}
use Rattle.solution.specs.Sharing.{binds_none}

-- the empty mapping is compatible with each mapping that is not wider
fits_all : (a b : Mapping Id) → binds_none a ≡ true → compatible id_order a b ≡ true
fits_all [] b h = refl
fits_all (None ∷ a) [] h = refl
fits_all (None ∷ a) (y ∷ b) h = fits_all a b h
fits_all (Some x ∷ a) b h = absurd (false≢true h)

-- and their merge is that mapping
gives_back : (a b : Mapping Id) → binds_none a ≡ true → length b ≤ length a → merge a b ≡ b
gives_back [] [] h w = refl
gives_back [] (y ∷ b) h w = let no : ⊥ = omega arith in absurd no
gives_back (None ∷ a) [] h w = refl
gives_back (None ∷ a) (y ∷ b) h w =
    let rest : length b ≤ length a = omega arith in
    ap (λ ms. y ∷ ms) (gives_back a b h rest)
gives_back (Some x ∷ a) b h w = absurd (false≢true h)

joins_all : (a : Mapping Id) (bs : List (Mapping Id)) → binds_none a ≡ true → list_all (λ b. nat_le (length b) (length a)) bs ≡ true
    → filter_map (joined id_order a) bs ≡ bs
joins_all a [] h w = refl
joins_all a (b ∷ bs) h w =
    let parts = and_parts (nat_le (length b) (length a)) (list_all (λ b. nat_le (length b) (length a)) bs) w in
    (λ i. cons_option (cond (fits_all a b h i) (Some (gives_back a b h (leb-true (length b) (length a) parts.0) i)) None) (joins_all a bs h parts.1 i))

only_one : (xs : List (Mapping Id)) (x : Mapping Id) → 1 ≤ length xs → length xs < 2 → x ≡ get_or xs 0 x → xs ≡ x ∷ []
only_one [] x low high is = let no : ⊥ = omega arith in absurd no
only_one (y ∷ []) x low high is = ap (λ z. z ∷ []) (sym is)
only_one (y ∷ z ∷ xs) x low high is = let no : ⊥ = omega arith in absurd no

pub unit_join : (xs : List (Mapping Id)) (a : Mapping Id) (bs : List (Mapping Id)) → 1 ≤ length xs → length xs < 2 → a ≡ get_or xs 0 a
    → binds_none a ≡ true → list_all (λ b. nat_le (length b) (length a)) bs ≡ true → join id_order xs bs ≡ set_of (mapping_cmp id_order) bs
unit_join xs a bs low high is h w =
    ap (λ ys. join id_order ys bs) (only_one xs a low high is)
    ∙ ap (set_of (mapping_cmp id_order)) (append-nil (filter_map (joined id_order a) bs) ∙ joins_all a bs h w)
